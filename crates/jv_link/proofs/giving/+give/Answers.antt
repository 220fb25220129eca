use Rattle.std.proofs.Common.{◌≡◌, ◌∙◌, ◌-◌, suc, sym, arith, length}
use Rattle.jv_classes.proofs.Followed.{some_class}
use Rattle.jv_meaning_world.specs.Numbers.{classes_at}
use Rattle.jv_lookups.proofs.Among.{among}
use Rattle.jv_lookups.proofs.Next.{next_below}
use Rattle.jv_link.proofs.GivenSoFar.{gives_with, gives_without, given_before, given_now}
use Rattle.jv_link.proofs.giving.+give.Goals as goal
use Rattle.jv_link.proofs.giving.+give.Goals.{in-Some+in_ok-give, in_default}

pub returns-then-has-clause-found : goal.returns-then-has-clause-found
returns-then-has-clause-found t c = λ l at.
    let world = c.args.table.now in
    given_before world c.args.steps (classes_at world c.args.given.now.numbers) l
    (sym (among world c.is_numbered.ensures c.args.number l c.args.given.now.numbers at c.requires.given.numbers) ∙
    (sym c.has.ensures ∙ c.if-has.true))

pub give-requires : goal.give-requires
give-requires t c =
    let world = c.args.table.now in
    let class = some_class world c.args.number c.requires.number in (
      omega arith,
      (
        next_below world class.0.class c.interfaces_of-interfaces.result.now c.loop-place.place c.in-Some.interface
            (c.interfaces_of-interfaces.ensures class.0 class.1) c.in-Some.is,
        c.loop-place.invariant.numbers,
      ),
    )

pub loop-place-preserved : goal.loop-place-preserved
loop-place-preserved t c =
    let world = c.args.table.now in
    let class = some_class world c.args.number c.requires.number in
    elim c.match-interfaces-place.branch [
      | in-Some+in_ok-give w ↦
          gives_with world (c.args.steps - 1) c.args.given.now c.loop-place.given c.match-interfaces-place.given c.interfaces_of-interfaces.result.now c.loop-place.place w.in-Some.interface
          c.loop-place-test.true w.in-Some.is
          (next_below world class.0.class c.interfaces_of-interfaces.result.now c.loop-place.place w.in-Some.interface (c.interfaces_of-interfaces.ensures class.0 class.1) w.in-Some.is)
          (rw w.given-is w.in_ok-give.ensures.found) (rw w.given-is w.in_ok-give.ensures.given) c.loop-place.invariant
      | in_default w ↦
          gives_without world (c.args.steps - 1) c.args.given.now c.loop-place.given c.match-interfaces-place.given
          c.interfaces_of-interfaces.result.now c.loop-place.place c.loop-place-test.true w.in_default.is w.given-is c.loop-place.invariant
    ]

pub returns-clause-found : goal.returns-clause-found
returns-clause-found t c = λ l at.
    let world = c.args.table.now in
    let depth : suc (c.args.steps - 1) ≡ c.args.steps = omega arith in
    let size : length c.interfaces_of-interfaces.result.now ≡ c.loop-place.place = omega (arith, c.loop-place-test.false) in
    given_now world c.args.steps (c.args.steps - 1) c.args.given.now c.loop-place.given c.add.new.self c.interfaces_of-interfaces.result.now c.loop-place.place c.args.number l depth at
    (sym (among world c.is_numbered.ensures c.args.number l c.args.given.now.numbers at c.requires.given.numbers) ∙ (sym c.has.ensures ∙ c.if-has.false))
    (c.interfaces_of-interfaces.ensures l at) size c.loop-place.invariant c.in_ok-add.ensures.ok
