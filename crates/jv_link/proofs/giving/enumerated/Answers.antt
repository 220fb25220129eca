use Rattle.std.proofs.Common.{◌≡◌, ◌∙◌, ap, subst, arith, length}
use Rattle.std.specs.List.{fold}
use Rattle.jv_meaning_world.specs.Numbers.{HoldsAtNumber}
use Rattle.jv_classes.proofs.Followed.{some_class}
use Rattle.jv_meaning_world.specs.Numbers.{classes_at}
use Rattle.jv_lookups.specs.Inside.Numbers.{NumbersBelow}
use Rattle.jv_lookups.proofs.Next.{next_below}
use Rattle.jv_meaning_typing.specs.InitializationOrder.{interfaces_in, given_within}
use Rattle.jv_link.proofs.GivenSoFar.{gives_with, gives_without, all_given}
use Rattle.jv_link.proofs.giving.enumerated.Goals as goal
use Rattle.jv_link.proofs.giving.enumerated.Goals.{in-Some+in_ok-give, in_default}

pub give-requires-clause-number : goal.give-requires-clause-number
give-requires-clause-number c =
    let world = c.args.table.now in
    let class = some_class world c.args.class c.requires in
    next_below world class.0.class c.interfaces_of-interfaces.result.now c.loop-place.place c.in-Some.interface (c.interfaces_of-interfaces.ensures class.0 class.1) c.in-Some.is

pub loop-place-preserved : goal.loop-place-preserved
loop-place-preserved c =
    let world = c.args.table.now in
    let class = some_class world c.args.class c.requires in
    elim c.match-interfaces-place.branch [
      | in-Some+in_ok-give w ↦
          gives_with world (length world) c.in_ok-given.given c.loop-place.given c.match-interfaces-place.given c.interfaces_of-interfaces.result.now c.loop-place.place w.in-Some.interface
          c.loop-place-test.true w.in-Some.is
          (next_below world class.0.class c.interfaces_of-interfaces.result.now c.loop-place.place w.in-Some.interface (c.interfaces_of-interfaces.ensures class.0 class.1) w.in-Some.is)
          (subst (λ n. HoldsAtNumber world w.in-Some.interface (λ s. classes_at world c.match-interfaces-place.given.numbers ≡ given_within world n
          (classes_at world c.loop-place.given.numbers) s)) w.count-in-Some.ensures (rw w.given-is w.in_ok-give.ensures.found))
          (rw w.given-is w.in_ok-give.ensures.given) c.loop-place.invariant
      | in_default w ↦
          gives_without world (length world) c.in_ok-given.given c.loop-place.given c.match-interfaces-place.given
          c.interfaces_of-interfaces.result.now c.loop-place.place c.loop-place-test.true w.in_default.is w.given-is c.loop-place.invariant
    ]

pub returns-clause-found : goal.returns-clause-found
returns-clause-found c = λ l at.
    let world = c.args.table.now in
    let size : length c.interfaces_of-interfaces.result.now ≡ c.loop-place.place = omega (arith, c.loop-place-test.false) in
    ap (classes_at world) c.numbers.ensures
    ∙ (all_given world (length world) c.in_ok-given.given c.loop-place.given c.interfaces_of-interfaces.result.now c.loop-place.place l
    (c.interfaces_of-interfaces.ensures l at) size c.loop-place.invariant
    ∙ ap (λ (b : NumbersBelow). fold (given_within world (length world)) (classes_at world b.numbers) (interfaces_in world l.class)) c.in_ok-given.ensures)
