use Rattle.std.proofs.Common.{◌∙◌, refl, sym, ap}
use Rattle.jv_meaning_world.specs.LookUps.{first_found}
use Rattle.jv_classes.proofs.Followed.{some_class}
use Rattle.jv_lookups.specs.Inside.Members.{field_named_in}
use Rattle.jv_lookups.proofs.Found.{found, passed}
use Rattle.jv_lookups.proofs.Standing.{field_stands}
use Rattle.jv_lookups.proofs.field.lookup_field.Goals as goal

pub returns-in-Some-clause-found : goal.returns-in-Some-clause-found
returns-in-Some-clause-found c = λ l e.
    let world = c.args.table.now in
    let look = field_named_in c.args.name.now c.args.descriptor.now in
    let class = some_class world _ (c.requires c.loop-class.class-index 0 c.loop-class-test.true) in
    let there = field_stands world c.in-Some.place c.in-Some.ensures.place in
    there.1 ∙ (found world look c.args.searched.now c.loop-class.class-index _ class.0 there.0 c.loop-class-test.true refl class.1
    (sym (c.in-Some.ensures.found class.0 class.1) ∙ there.1) c.loop-class.invariant
    ∙ ap (first_found look) e)

pub loop-class-preserved : goal.loop-class-preserved
loop-class-preserved c =
    let world = c.args.table.now in
    let look = field_named_in c.args.name.now c.args.descriptor.now in
    let class = some_class world _ (c.requires c.loop-class.class-index 0 c.loop-class-test.true) in
    passed world look c.args.searched.now c.loop-class.class-index _ class.0 c.loop-class-test.true refl class.1 (sym (c.in_default.ensures.found class.0 class.1)) c.loop-class.invariant
