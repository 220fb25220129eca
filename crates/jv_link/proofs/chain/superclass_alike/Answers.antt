use Rattle.std.proofs.Common.{◌∙◌, ℕ, Option, get_or, refl, sym, ap}
use Rattle.jv_meaning_world.specs.World.{Loaded}
use Rattle.jv_meaning_world.specs.Overriding.{Declared, alike_in}
use Rattle.jv_meaning_world.specs.LookUps.{first_found}
use Rattle.jv_classes.proofs.Followed.{some_class}
use Rattle.jv_lookups.proofs.Found.{found, passed}
use Rattle.jv_lookups.proofs.Standing.{method_stands}
use Rattle.jv_link.proofs.chain.superclass_alike.Goals as goal

pub returns-in-Some-clause-found : goal.returns-in-Some-clause-found
returns-in-Some-clause-found c = λ l at e at_e.
    let world = c.args.table.now in
    let look : Loaded → Option Declared = λ s. alike_in s e.method in
    let above = c.superclasses-superclass-items in
    let number : ℕ = get_or above.result.now c.loop-superclass.superclass-index 0 in
    let class = some_class world number (above.ensures.numbers c.loop-superclass.superclass-index 0 c.loop-superclass-test.true) in
    let there = method_stands world c.in-Some.place c.in-Some.ensures.place in
    there.1 ∙ (found world look above.result.now c.loop-superclass.superclass-index number class.0 there.0 c.loop-superclass-test.true refl class.1
    (sym (c.in-Some.ensures.found class.0 class.1 e at_e) ∙ there.1) (c.loop-superclass.invariant e at_e)
    ∙ ap (first_found look) (above.ensures.found l at))

pub loop-superclass-preserved : goal.loop-superclass-preserved
loop-superclass-preserved c = λ e at_e.
    let world = c.args.table.now in
    let look : Loaded → Option Declared = λ s. alike_in s e.method in
    let above = c.superclasses-superclass-items in
    let number : ℕ = get_or above.result.now c.loop-superclass.superclass-index 0 in
    let class = some_class world number (above.ensures.numbers c.loop-superclass.superclass-index 0 c.loop-superclass-test.true) in
    passed world look above.result.now c.loop-superclass.superclass-index number class.0 c.loop-superclass-test.true refl class.1
    (sym (c.in_default.ensures.found class.0 class.1 e at_e)) (c.loop-superclass.invariant e at_e)
