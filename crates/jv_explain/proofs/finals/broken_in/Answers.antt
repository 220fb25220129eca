use Rattle.std.proofs.Common.{◌+◌, ◌≤◌, drop, length, sym, ap, ◌∙◌, arith}
use Rattle.std.specs.Prelude.{slice_get}
use Rattle.std.specs.List.{find}
use Rattle.std.proofs.Math.ListN.{drop_of_length-le}
use Rattle.jv_meaning_world.proofs.Lists.{drop_one_more}
use Rattle.jv_explain.specs.Finals.{breaks_itself}
use Rattle.jv_explain.proofs.BrokenFinals.{found_here, of_some, passed_here}
use Rattle.jv_explain.proofs.finals.broken_in.Goals as goal

pub returns-then-breaks_at-clause-found : goal.returns-then-breaks_at-clause-found
returns-then-breaks_at-clause-found c =
    let own = c.args.own.now in
    let of = c.args.of.now in
    let place = c.loop-place.place in
    let (m, there, is) = of_some (slice_get of.class.methods place) _ c.breaks_at.ensures in
    let test = breaks_itself own of in
    sym (c.loop-place.invariant ∙ (ap (find test) (drop_one_more of.class.methods place m there)
    ∙ (found_here test m (drop (place + 1) of.class.methods) (sym is ∙ c.if-breaks_at.true) ∙ sym there)))

pub loop-place-preserved : goal.loop-place-preserved
loop-place-preserved c =
    let own = c.args.own.now in
    let of = c.args.of.now in
    let place = c.loop-place.place in
    let (m, there, is) = of_some (slice_get of.class.methods place) _ c.breaks_at.ensures in
    let test = breaks_itself own of in
    c.loop-place.invariant ∙ (ap (find test) (drop_one_more of.class.methods place m there)
    ∙ passed_here test m (drop (place + 1) of.class.methods) (sym is ∙ c.if-breaks_at.false))

pub returns-clause-found : goal.returns-clause-found
returns-clause-found c =
    let own = c.args.own.now in
    let of = c.args.of.now in
    let end : length of.class.methods ≤ c.loop-place.place = omega (arith, c.loop-place-test.false, c.method_count-place-end.ensures) in
    sym (c.loop-place.invariant ∙ ap (find (breaks_itself own of)) (drop_of_length-le of.class.methods end))
