use Rattle.std.proofs.Common.{◌∙◌, refl, sym, ap}
use Rattle.jv_meaning_world.specs.LookUps.{method_in, first_found}
use Rattle.jv_classes.proofs.Followed.{some_class}
use Rattle.jv_lookups.proofs.Found.{found, passed}
use Rattle.jv_lookups.proofs.Standing.{method_stands}
use Rattle.jv_lookups.proofs.method.superclass_method.Goals as goal

pub returns-in-Some-clause-found : goal.returns-in-Some-clause-found
returns-in-Some-clause-found c = λ l at.
    let world = c.args.table.now in
    let look = method_in c.args.name.now c.args.descriptor.now in
    let above = c.superclasses-superclass-items in
    let class = some_class world _ (above.ensures.numbers c.loop-superclass.superclass-index 0 c.loop-superclass-test.true) in
    let there = method_stands world c.in-Some.place c.in-Some.ensures.place in
    there.1 ∙ (found world look above.result.now c.loop-superclass.superclass-index _ class.0 there.0 c.loop-superclass-test.true refl class.1
    (sym (c.in-Some.ensures.found class.0 class.1) ∙ there.1) c.loop-superclass.invariant
    ∙ ap (first_found look) (above.ensures.found l at))

pub loop-superclass-preserved : goal.loop-superclass-preserved
loop-superclass-preserved c =
    let world = c.args.table.now in
    let look = method_in c.args.name.now c.args.descriptor.now in
    let above = c.superclasses-superclass-items in
    let class = some_class world _ (above.ensures.numbers c.loop-superclass.superclass-index 0 c.loop-superclass-test.true) in
    passed world look above.result.now c.loop-superclass.superclass-index _ class.0 c.loop-superclass-test.true refl class.1
    (sym (c.in_default.ensures.found class.0 class.1)) c.loop-superclass.invariant
