use Rattle.std.proofs.Common.{◌≡◌, ◌∙◌, ◌+◌, refl, sym, subst, arith, length}
use Rattle.jv_classes.proofs.Followed.{some_class}
use Rattle.jv_lookups.proofs.Collected.{LeavesSpecifics, AreLeft, specific_at, two, one_alone, none_at_all, leaves_one, leaves_as_before}
use Rattle.jv_lookups.proofs.Standing.{method_stands}
use Rattle.jv_lookups.proofs.Tests.{some_found}
use Rattle.jv_lookups.proofs.superinterface.specifics.Goals as goal
use Rattle.jv_lookups.proofs.superinterface.specifics.Goals.{in-Some+else-is_some, in_default}

pub returns-then-is_some-clause-found : goal.returns-then-is_some-clause-found
returns-then-is_some-clause-found c = λ l at.
    let world = c.args.table.now in
    let look = specific_at world c.args.searched.now c.args.name.now c.args.descriptor.now l in
    let class = some_class world _ (c.requires.searched c.loop-class.class-index 0 c.loop-class-test.true) in
    let there = method_stands world c.in-Some.place c.in-Some.ensures.place in
    let before = some_found world c.loop-class.found (sym c.is_some.ensures ∙ c.if-is_some.true) c.loop-class.invariant.stands in
    two world look c.args.searched.now c.loop-class.class-index _ class.0 before.0 there.0 c.loop-class-test.true refl class.1 (sym (c.in-Some.ensures.found l at class.0 class.1) ∙ there.1)
    (subst (AreLeft world look c.args.searched.now c.loop-class.class-index) before.1 (c.loop-class.invariant.left l at))

pub returns-in-Some-found-clause-found : goal.returns-in-Some-found-clause-found
returns-in-Some-found-clause-found c =
    let size : length c.args.searched.now ≡ c.loop-class.class-index = omega (arith, c.loop-class-test.false) in
    one_alone c.args.table.now c.args.from c.args.searched.now c.args.name.now c.args.descriptor.now c.loop-class.class-index c.loop-class.found size
    c.loop-class.invariant c.in-Some-found.place c.in-Some-found.is

pub returns-in-None-clause-found : goal.returns-in-None-clause-found
returns-in-None-clause-found c =
    let size : length c.args.searched.now ≡ c.loop-class.class-index = omega (arith, c.loop-class-test.false) in
    none_at_all c.args.table.now c.args.from c.args.searched.now c.args.name.now c.args.descriptor.now c.loop-class.class-index c.loop-class.found size c.loop-class.invariant c.in-None.is

pub loop-class-preserved : goal.loop-class-preserved
loop-class-preserved c =
    let world = c.args.table.now in
    let class = some_class world _ (c.requires.searched c.loop-class.class-index 0 c.loop-class-test.true) in
    elim c.match-specific.branch [
      | in-Some+else-is_some w ↦
          subst (LeavesSpecifics world c.args.from c.args.searched.now c.args.name.now c.args.descriptor.now (c.loop-class.class-index + 1)) (sym w.found-is)
          (leaves_one world c.args.from c.args.searched.now c.args.name.now c.args.descriptor.now c.loop-class.class-index _ class.0 c.loop-class.found w.in-Some.place
          c.loop-class-test.true refl class.1 (λ l at. w.in-Some.ensures.found l at class.0 class.1) w.in-Some.ensures.place (sym w.is_some.ensures ∙ w.if-is_some.false) c.loop-class.invariant)
      | in_default w ↦
          subst (LeavesSpecifics world c.args.from c.args.searched.now c.args.name.now c.args.descriptor.now (c.loop-class.class-index + 1)) (sym w.found-is)
          (leaves_as_before world c.args.from c.args.searched.now c.args.name.now c.args.descriptor.now c.loop-class.class-index _ class.0 c.loop-class.found
          c.loop-class-test.true refl class.1 (λ l at. w.in_default.ensures.found l at class.0 class.1) c.loop-class.invariant)
    ]
