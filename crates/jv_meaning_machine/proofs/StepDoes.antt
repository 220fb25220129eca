-- What becomes of what an instruction did to the memory, and of its effect.
use Rattle.std.proofs.Common.{◌≡◌, ◌+◌, nat_le, Bool, true, false, List, ◌∷◌, Option, Ok, refl, sym, ap, ◌∙◌}
use Rattle.jv_code.specs.Insns.{Instruction}
use Rattle.jv_meaning_machine.specs.Faults.{OrFault, found, tested, ◌>>=◌}
use Rattle.jv_meaning_machine.specs.Faults.Fault.{OffsetFault, StackFault}
use Rattle.jv_meaning_machine.specs.Values.{words_of_values}
use Rattle.jv_meaning_machine.specs.Frames.{Frame}
use Rattle.jv_meaning_machine.specs.Frames.Frame.{Runs}
use Rattle.jv_meaning_machine.specs.State.{Memory, state_of}
use Rattle.jv_meaning_machine.specs.Effects.{Effect}
use Rattle.jv_meaning_machine.specs.Effects.Effect.{Goes}
use Rattle.jv_meaning_machine.specs.Instructions.{execute}
use Rattle.jv_meaning_machine.specs.Step.{act, context, step_in}
use Rattle.jv_meaning_machine.specs.Laws.Shapes.{used_words}
use Rattle.jv_meaning_machine.specs.Laws.Steps.{StepActs, StepGoesOn, OutcomeStays}
use Rattle.jv_meaning_machine.proofs.KeptMemory.{keeps_same}
use Rattle.jv_meaning_machine.proofs.KeptInstructions.{execute_stored}
use Rattle.jv_meaning_machine.proofs.KeptSteps.{act_stays}

pub step_acts : StepActs
step_acts program s memory effect h =
    ap (λ (frames : List Frame). step_in program s.memory frames s.control) h.frames
    ∙ ap
    (λ (o : Option Instruction).
    found OffsetFault o >>= λ insn. execute (context program s.memory s.control h.frame insn) insn
    >>= act program h.frame h.below s.control)
    h.stands
    ∙ ap (λ (o : OrFault (Memory × Effect)). o >>= act program h.frame h.below s.control) h.does

pub step_goes_on : StepGoesOn
step_goes_on program s next memory offset locals stack h e =
    by_test (nat_le (words_of_values stack) h.frame.method.code.max_stack) refl
    (sym (step_acts program s memory (Goes offset locals stack) h) ∙ e)
  where
    by_test :
        (test : Bool) → nat_le (words_of_values stack) h.frame.method.code.max_stack ≡ test
        → (tested StackFault test h.frame
        >>= (λ frame. Ok (record frame { offset = offset; locals = locals; stack = stack }))
        >>= (λ frame. Ok (state_of memory (Runs frame ∷ h.below) s.control)))
        ≡ Ok next
        → (nat_le (words_of_values stack) h.frame.method.code.max_stack ≡ true)
        × (next ≡ state_of memory (Runs (record h.frame { offset = offset; locals = locals; stack = stack }) ∷ h.below) s.control)
    by_test true f k = (f, cc)
    by_test false f k = absurd cc

pub outcome_stays : OutcomeStays
outcome_stays program s next memory effect h e =
    ((act_stays program memory (used_words (Runs h.frame ∷ h.below) + s.control.words) s.control.main h.frame h.below s.control memory effect
    (keeps_same memory) ((execute_stored (context program s.memory s.control h.frame h.insn) h.insn).at (memory, effect) h.does).may
    (record { sum = refl; same_main = refl })).at
    next (sym (step_acts program s memory effect h) ∙ e)).0
