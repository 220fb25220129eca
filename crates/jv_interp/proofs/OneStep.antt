-- One step of a guest that takes steps.
use Rattle.std.proofs.Common.{◌≡◌, ℕ, zero, suc, ◌+◌, ◌-◌, ◌<◌, ◌≤◌, List, ◌++◌, refl, ap, subst, ◌∙◌, arith}
use Rattle.jv_meaning_machine.specs.Start.{Budget}
use Rattle.jv_meaning_machine.specs.Alone.{GuestFiles, Feed}
use Rattle.jv_meaning_machine.specs.Observation.{Observed, Shows, observation}
use Rattle.jv_meaning_machine.specs.Laws.Shown.{ShowsOneThing}
use Rattle.jv_interp_heap.specs.ObjectsInBlocks.{Blocks}
use Rattle.jv_interp.specs.declared.guest.Guest.{Guest}
use Rattle.jv_interp.specs.Standing.{GuestStands, IsSomeGuest, WentOn}
use Rattle.jv_interp.specs.Showing.{HasEnded, TakesSteps}

shown_by :
    (g : GuestFiles) (b : Budget) (feeds : List Feed) (n : ℕ) (addresses : List ℕ) (guest : Guest) (blocks : Blocks)
    (h : GuestStands g b feeds n addresses guest blocks) → Shows g b feeds n (observation h.judged.verdicts n h.state)
shown_by g b feeds n addresses guest blocks h =
    record { judged = h.judged; right = h.right; state = h.state; ran = h.ran; shown = refl }

-- a guest that took no step has not ended, if it took steps
stays :
    ShowsOneThing → (before after : Guest) (blocks blocks_after : Blocks) → IsSomeGuest before blocks → TakesSteps before blocks
    → WentOn 0 before after blocks blocks_after → HasEnded after blocks_after → ⊥
stays one before after blocks blocks_after some takes went ended =
    let w = went some.g some.b some.feeds some.n some.addresses some.stands in
    let same : some.n + 0 ≡ some.n = omega arith in
    let now = subst (λ (n : ℕ). Shows some.g some.b some.feeds n (observation w.stands.judged.verdicts (some.n + 0) w.stands.state)) same
    (shown_by some.g some.b some.feeds (some.n + 0) (some.addresses ++ w.more) after blocks_after w.stands) in
    let is = one some.g some.b some.feeds some.n _ _ now (shown_by some.g some.b some.feeds some.n some.addresses before blocks some.stands) in
    ended some.g some.b some.feeds (some.n + 0) (some.addresses ++ w.more) w.stands
    (ap (λ (o : Observed). o.end) is ∙ takes some.g some.b some.feeds some.n some.addresses some.stands)

-- so one step that was not refused was taken
pub took_one :
    ShowsOneThing → (before after : Guest) (blocks blocks_after : Blocks) → IsSomeGuest before blocks → TakesSteps before blocks → (left : ℕ) → left ≤ 1
    → WentOn (1 - left) before after blocks blocks_after → (0 < left → HasEnded after blocks_after) → WentOn 1 before after blocks blocks_after
took_one one before after blocks blocks_after some takes zero most went ended = went
took_one one before after blocks blocks_after some takes (suc zero) most went ended =
    absurd (stays one before after blocks blocks_after some takes went (ended (omega arith)))
took_one one before after blocks blocks_after some takes (suc (suc left)) most went ended = absurd (omega (arith, most))

-- and one that was refused was not
pub took_none :
    (before after : Guest) (blocks blocks_after : Blocks) (left : ℕ) → left ≤ 1 → 0 < left → WentOn (1 - left) before after blocks blocks_after
    → WentOn 0 before after blocks blocks_after
took_none before after blocks blocks_after zero most some went = absurd (omega (arith, some))
took_none before after blocks blocks_after (suc zero) most some went = went
took_none before after blocks blocks_after (suc (suc left)) most some went = absurd (omega (arith, most))
