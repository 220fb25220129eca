-- One step more.
use Rattle.std.proofs.Common.{◌≡◌, ℕ, suc, zero, List, Ok, Err, refl, ap, subst, ◌∙◌, IsOk}
use Rattle.jv_meaning_machine.specs.Faults.{OrFault}
use Rattle.jv_meaning_machine.specs.State.{Program, State}
use Rattle.jv_meaning_machine.specs.Step.{step, after_steps}
use Rattle.jv_interp_words.specs.declared.records.FrameRecord.{FrameRecord}
use Rattle.jv_interp_words.specs.declared.registers.Registers.{Registers}
use Rattle.jv_interp_words.proofs.Gave.{bound_gave}
use Rattle.jv_interp_words.specs.Going.{StaysIn}
use Rattle.jv_interp_words.specs.Stepping.{StepsFrom, CanStep, Stepped, StepsTo}
use Rattle.jv_interp_words.specs.Running.{StandsHere, CanRun, RunsTo}

same_state : (a b : State) (o : OrFault State) → o ≡ Ok a → o ≡ Ok b → a ≡ b
same_state a b o e f = cc

pub ran_none : (at : Registers) (words : List ℕ) → RunsTo zero at words at words
ran_none at words = λ program s t addresses waiting h e.
    let same : s ≡ t = same_state s t (Ok s) refl e in
    subst (λ (u : State). Stepped program s u addresses waiting at at words) same
    (record {
      running = h.running;
      same_memory = refl;
      same_control = refl;
      stays = record { same = refl; top_within = h.running.top_within };
    })

stays_on :
    (start now after : Registers) (words words_after : List ℕ) → StaysIn start now words → StaysIn now after words_after
    → StaysIn start after words_after
stays_on start now after words words_after h k = record {
  same = k.same ∙ ap (λ (a : Registers). record a { pc = after.pc; top = after.top }) h.same;
  top_within = k.top_within;
}

steps_on :
    (program : Program) (s m t : State) (addresses : List ℕ) (waiting : List FrameRecord) (start now : Registers) (before words : List ℕ)
    → StandsHere program s addresses waiting start before → Stepped program s m addresses waiting start now words → step program m ≡ Ok t
    → StepsFrom program m t addresses waiting now words
steps_on program s m t addresses waiting start now before words h k e =
    record { running = k.running; apart = h.apart; finds = h.finds; goes = e }

pub ran_more :
    (n : ℕ) (start now after : Registers) (before words words_after : List ℕ) → RunsTo n start before now words
    → StepsTo now words after words_after → RunsTo (suc n) start before after words_after
ran_more n start now after before words words_after ran took = λ program s t addresses waiting h e.
    let parts = bound_gave (after_steps program n s) (step program) t e in
    let m = parts.0 in
    let so_far = ran program s m addresses waiting h parts.1 in
    let last = took program m t addresses waiting (steps_on program s m t addresses waiting start now before words h so_far parts.2) in
    record {
      running = last.running;
      same_memory = last.same_memory ∙ so_far.same_memory;
      same_control = last.same_control ∙ so_far.same_control;
      stays = stays_on start now after words words_after so_far.stays last.stays;
    }

ok_gave : (o : OrFault State) → IsOk o → (t : State) × (o ≡ Ok t)
ok_gave (Ok t) h = (t, refl)
ok_gave (Err fault) h = absurd cc

pub has_step :
    (n : ℕ) (start now : Registers) (before words : List ℕ) → CanRun start before → RunsTo n start before now words → CanStep now words
has_step n start now before words h ran =
    let t = ok_gave (after_steps h.program (suc n) h.s) (h.never_faults (suc n)) in
    let parts = bound_gave (after_steps h.program n h.s) (step h.program) t.0 t.1 in
    let so_far = ran h.program h.s parts.0 h.addresses h.waiting h.stands parts.1 in
    record {
      program = h.program;
      s = parts.0;
      t = t.0;
      addresses = h.addresses;
      waiting = h.waiting;
      from = steps_on h.program h.s parts.0 t.0 h.addresses h.waiting start now before words h.stands so_far parts.2;
    }
