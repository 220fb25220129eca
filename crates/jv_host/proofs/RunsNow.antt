-- Whether a guest takes steps.
use Rattle.std.proofs.Common.{ℕ, true, false, List, map, refl}
use Rattle.jv_interp_heap.specs.ObjectsInBlocks.{Blocks}
use Rattle.jv_interp.specs.Started.{budget_of}
use Rattle.jv_interp.specs.Showing.{IsAnswered}
use Rattle.jv_meaning_machine.specs.Observation.{observation}
use Rattle.jv_host.specs.declared.admission.Admitted.{Admitted}
use Rattle.jv_host.specs.Files.{guest_of}
use Rattle.jv_host.specs.Host.{IsRunningAfter, IsOverAfter}
use Rattle.jv_host.specs.Inside.Holding.{feed_of, admission_of, IsHeld}

module _ (a : Admitted) (addresses : List ℕ) (blocks : Blocks) (h : IsHeld a addresses blocks) where
  pub runs_now : IsAnswered a.guest true → IsRunningAfter (admission_of a) a.guest.steps
  runs_now answered = (
    observation h.stands.judged.verdicts a.guest.steps h.stands.state,
    record { judged = h.stands.judged; right = h.stands.right; state = h.stands.state; ran = h.stands.ran; shown = refl },
    (answered (guest_of a.files) (budget_of a.budget) (map feed_of a.feeds.items) a.guest.steps addresses blocks h.stands).0 refl,
  )

  pub over_now : IsAnswered a.guest false → IsOverAfter (admission_of a) a.guest.steps
  over_now answered = (
    observation h.stands.judged.verdicts a.guest.steps h.stands.state,
    record { judged = h.stands.judged; right = h.stands.right; state = h.stands.state; ran = h.stands.ran; shown = refl },
    λ running.
        absurd
        (let runs = (answered (guest_of a.files) (budget_of a.budget) (map feed_of a.feeds.items) a.guest.steps addresses blocks h.stands).1 running in
        cc),
  )
