use Rattle.std.proofs.Common.{◌≡◌, ◌∙◌, ◌-◌, suc, sym, arith, length}
use Rattle.jv_classes.proofs.Followed.{some_class}
use Rattle.jv_lookups.proofs.Among.{among}
use Rattle.jv_lookups.proofs.Next.{begun_before, ends_here, next_below, super_below, step_with, step_without, finish, ends_with, ends_without}
use Rattle.jv_lookups.proofs.searching.+go_on.Goals as goal
use Rattle.jv_lookups.proofs.searching.+go_on.Goals.{in-Some+in_ok-go_on, in_default}

pub returns-then-has-clause-found : goal.returns-then-has-clause-found
returns-then-has-clause-found t c = λ l at.
    let world = c.args.table.now in
    sym (begun_before world c.args.deeper _ l (sym (among world c.is_numbered.ensures c.args.number l c.args.begun.now.numbers at c.requires.begun.numbers) ∙ (sym c.has.ensures ∙ c.if-has.true)))

pub returns-then-deeper-eq0-clause-found : goal.returns-then-deeper-eq0-clause-found
returns-then-deeper-eq0-clause-found t c = λ l at.
    let world = c.args.table.now in
    ends_here world c.args.deeper c.args.begun.now c.add.new.self c.args.number l at
    (sym (among world c.is_numbered.ensures c.args.number l c.args.begun.now.numbers at c.requires.begun.numbers) ∙ (sym c.has.ensures ∙ c.if-has.false))
    c.in_ok-add.ensures.ok c.if-deeper-eq0.true

pub go_on-requires : goal.go_on-requires
go_on-requires t c =
    let world = c.args.table.now in
    let class = some_class world c.args.number c.requires.number in (
      omega arith,
      (
        next_below world class.0.class c.interfaces_of-interfaces.result.now c.loop-place.place c.in-Some.interface
            (c.interfaces_of-interfaces.ensures class.0 class.1) c.in-Some.is,
        c.loop-place.invariant.numbers,
      ),
    )

pub loop-place-preserved : goal.loop-place-preserved
loop-place-preserved t c =
    let world = c.args.table.now in
    let class = some_class world c.args.number c.requires.number in
    let depth : suc (c.args.deeper - 1) ≡ c.args.deeper = omega arith in
    elim c.match-interfaces-place.branch [
      | in-Some+in_ok-go_on w ↦
          step_with world c.args.deeper (c.args.deeper - 1) c.add.new.self c.loop-place.begun c.match-interfaces-place.begun
          c.interfaces_of-interfaces.result.now c.loop-place.place w.in-Some.interface
          depth c.loop-place-test.true w.in-Some.is
          (next_below world class.0.class c.interfaces_of-interfaces.result.now c.loop-place.place w.in-Some.interface (c.interfaces_of-interfaces.ensures class.0 class.1) w.in-Some.is)
          (rw w.begun-is w.in_ok-go_on.ensures.found) (rw w.begun-is w.in_ok-go_on.ensures.begun) c.loop-place.invariant
      | in_default w ↦
          step_without world c.args.deeper c.add.new.self c.loop-place.begun c.match-interfaces-place.begun c.interfaces_of-interfaces.result.now
          c.loop-place.place c.loop-place-test.true w.in_default.is w.begun-is c.loop-place.invariant
    ]

pub go_on-requires-in-Some-super_of : goal.go_on-requires-in-Some-super_of
go_on-requires-in-Some-super_of t c =
    let world = c.args.table.now in
    let class = some_class world c.args.number c.requires.number in
    (omega arith, (super_below world class.0.class c.super_of.result c.in-Some-super_of.superclass (c.super_of.ensures class.0 class.1) c.in-Some-super_of.is, c.loop-place.invariant.numbers))

pub returns-in_ok-go_on-2-clause-found : goal.returns-in_ok-go_on-2-clause-found
returns-in_ok-go_on-2-clause-found t c = λ l at.
    let world = c.args.table.now in
    let depth : suc (c.args.deeper - 1) ≡ c.args.deeper = omega arith in
    let size : length c.interfaces_of-interfaces.result.now ≡ c.loop-place.place = omega (arith, c.loop-place-test.false) in
    let less = super_below world l.class c.super_of.result c.in-Some-super_of.superclass (c.super_of.ensures l at) c.in-Some-super_of.is in
    finish world c.args.deeper c.args.begun.now c.add.new.self c.loop-place.begun c.go_on-in-Some-super_of.new.begun c.args.number c.loop-place.place
    l c.interfaces_of-interfaces.result.now c.super_of.result at
    (sym (among world c.is_numbered.ensures c.args.number l c.args.begun.now.numbers at c.requires.begun.numbers) ∙ (sym c.has.ensures ∙ c.if-has.false))
    c.in_ok-add.ensures.ok (c.interfaces_of-interfaces.ensures l at) (c.super_of.ensures l at) size c.loop-place.invariant
    (ends_with world c.args.deeper (c.args.deeper - 1) c.super_of.result c.loop-place.begun c.go_on-in-Some-super_of.new.begun
    c.in-Some-super_of.superclass depth c.in-Some-super_of.is less c.in_ok-go_on-2.ensures.found)

pub returns-in_default-super_of-clause-found : goal.returns-in_default-super_of-clause-found
returns-in_default-super_of-clause-found t c = λ l at.
    let world = c.args.table.now in
    let size : length c.interfaces_of-interfaces.result.now ≡ c.loop-place.place = omega (arith, c.loop-place-test.false) in
    finish world c.args.deeper c.args.begun.now c.add.new.self c.loop-place.begun c.loop-place.begun c.args.number c.loop-place.place l c.interfaces_of-interfaces.result.now c.super_of.result at
    (sym (among world c.is_numbered.ensures c.args.number l c.args.begun.now.numbers at c.requires.begun.numbers) ∙ (sym c.has.ensures ∙ c.if-has.false))
    c.in_ok-add.ensures.ok (c.interfaces_of-interfaces.ensures l at) (c.super_of.ensures l at) size c.loop-place.invariant
    (ends_without world c.args.deeper c.super_of.result c.loop-place.begun c.in_default-super_of.is)
