-- A guest whose files were judged never meets a fault.
use Rattle.std.proofs.Common.{◌≡◌, Ok, refl, subst}
use Rattle.std.specs.Prelude.{Err, IsOk, IsErr}
use Rattle.jv_meaning_machine.specs.Faults.{OrFault}
use Rattle.jv_meaning_machine.specs.State.{State}
use Rattle.jv_meaning_world.specs.Library.{with_library}
use Rattle.jv_meaning_machine.specs.Alone.{Judged, IsJudged, Stands, alone}
use Rattle.jv_meaning_machine.specs.Laws.Shown.{OneJudged}
use Rattle.jv_meaning_machine.specs.Observation.{observation}
use Rattle.jv_sound.specs.Law.{NeverFaults as JudgedNeverFaults}
use Rattle.jv_host.specs.Host.{Admission}
use Rattle.jv_host.specs.Faultless.{NeverFaults}

state_of : (run : OrFault State) → IsOk run → (s : State) × (run ≡ Ok s)
state_of (Ok s) h = (s, refl)
state_of (Err fault) h = absurd cc

not_both : (run : OrFault State) → IsOk run → IsErr run → ⊥
not_both (Ok s) h k = absurd cc
not_both (Err fault) h k = absurd cc

pub never_faults :
    OneJudged → JudgedNeverFaults → (a : Admission) (judged : Judged) (right : IsJudged a.guest.library a.guest.files judged)
    → Stands judged.program.world (with_library right.given) → NeverFaults a
never_faults one sound a judged right stand = record {
  shows = λ feeds n.
      let ran = state_of (alone judged a.guest a.budget feeds n) (sound judged a.guest a.budget feeds n right stand) in (
        observation judged.verdicts n ran.0,
        record { judged = judged; right = right; state = ran.0; ran = ran.1; shown = refl },
      );
  faultless = λ feeds n fault.
      not_both (alone fault.judged a.guest a.budget feeds n) (subst (λ (j : Judged). IsOk (alone j a.guest a.budget feeds n))
      (one a.guest.library a.guest.files judged fault.judged right fault.right) (sound judged a.guest a.budget feeds n right stand)) fault.fault;
}
