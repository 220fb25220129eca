use Rattle.std.proofs.Common.{◌≡◌, ℕ, suc, ◌+◌, drop, reverse, sym, ap, ◌∙◌, arith}
use Rattle.jv_interp_words.specs.declared.records.FrameRecord.TheVariants as records
use Rattle.jv_interp_control.specs.Inside.Places.{record_place}
use Rattle.jv_interp_control.proofs.PlacesStand.{method_next, initialization_next}
use Rattle.jv_interp_control.proofs.Walks.{turned_at}
use Rattle.jv_interp_control.proofs.places.place_behind.Goals as goal

pub returns-in-Runs : goal.returns-in-Runs
returns-in-Runs c =
    let all = c.args.records.now in
    let k = c.loop-behind.behind in
    method_next (reverse all) k c.in-Runs.own (turned_at all k (records.Runs c.in-Runs.own) _ c.loop-behind-test.true c.in-Runs.is)
    ∙ sym c.loop-behind.invariant

pub loop-behind-preserved : goal.loop-behind-preserved
loop-behind-preserved c =
    let all = c.args.records.now in
    let k = c.loop-behind.behind in
    let at = turned_at all k (records.Initializes c.in_default.field-0) _ c.loop-behind-test.true c.in_default.is in
    let one_more : suc k ≡ k + 1 = omega arith in
    c.loop-behind.invariant ∙ initialization_next (reverse all) k c.in_default.field-0 at
    ∙ ap (λ (n : ℕ). record_place (drop n (reverse all))) one_more
