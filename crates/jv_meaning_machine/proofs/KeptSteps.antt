-- What stays over a step, over any number of steps, and of a guest alone.
use Rattle.std.proofs.Common.{◌≡◌, ℕ, zero, suc, ◌+◌, List, [], ◌∷◌, Ok, refl, ◌∙◌}
use Rattle.jv_code.specs.Insns.{Instruction}
use Rattle.jv_meaning_world.specs.World.{World}
use Rattle.jv_meaning_machine.specs.Faults.{◌>>=◌}
use Rattle.jv_meaning_machine.specs.Values.{Value}
use Rattle.jv_meaning_machine.specs.Frames.{MethodFrame, Frame}
use Rattle.jv_meaning_machine.specs.Frames.Frame.{Runs, Initializes}
use Rattle.jv_meaning_machine.specs.State.{Program, Memory, Control, State, state_of}
use Rattle.jv_meaning_machine.specs.Effects.{Effect}
use Rattle.jv_meaning_machine.specs.Effects.Effect.{Goes, Enters, Constructs, Leaves, Throws, Raises, Begins}
use Rattle.jv_meaning_machine.specs.Instructions.{execute}
use Rattle.jv_meaning_machine.specs.Entering.{at_offset}
use Rattle.jv_meaning_machine.specs.Step.{waiting, act, context, step_in, step, after_steps}
use Rattle.jv_meaning_machine.specs.Laws.Shapes.{used_words}
use Rattle.jv_meaning_machine.specs.Laws.Kept.{Keeps, KeepsState}
use Rattle.jv_meaning_machine.proofs.Leading.{Leads, leaf, bound, chained}
use Rattle.jv_meaning_machine.proofs.KeptMemory.{keeps_same, keeps_over}
use Rattle.jv_meaning_machine.proofs.KeptOutcomes.{IsStored, MayConstruct}
use Rattle.jv_meaning_machine.proofs.KeptInstructions.{execute_stored}
use Rattle.jv_meaning_machine.proofs.KeptControl.{HasWords, Stays, throw_stays, raise_stays, enter_stays, enter_init_stays, at_offset_is_of, goes_on_stays, leave_stays, begin_stays, initialization_step_stays}

-- ---- what an instruction's effect makes of the frames

module _ (program : Program) (from : Memory) (all_words : ℕ) (main : List ℕ) where
  waits :
      (control : Control) (frame : MethodFrame) (stack : List Value) (below : List Frame)
      → HasWords program from all_words main control (Runs frame ∷ below)
      → HasWords program from all_words main control (waiting frame stack ∷ below)
  waits control frame stack below w = record { sum = w.sum; same_main = w.same_main }

  pub act_stays :
      (frame : MethodFrame) (below : List Frame) (control : Control) (memory : Memory) (effect : Effect) → Keeps program.world from memory
      → MayConstruct memory.objects effect → HasWords program from all_words main control (Runs frame ∷ below)
      → Leads State (Stays program from all_words main) (act program frame below control (memory, effect))
  act_stays frame below control memory (Goes offset locals stack) h may w =
      chained _ (Stays program from all_words main) (at_offset frame offset locals stack)
      (λ next. Ok (state_of memory (Runs next ∷ below) control)) (at_offset_is_of program from all_words main frame offset locals stack)
      (λ next same. leaf (Stays program from all_words main) _ (goes_on_stays program from all_words main memory control frame next below h w same))
  act_stays frame below control memory (Enters d receiver arguments stack) h may w =
      enter_stays program from all_words main memory (waiting frame stack ∷ below) control d receiver arguments h
      (waits control frame stack below w)
  act_stays frame below control memory (Constructs d object instance arguments stack) h may w =
      enter_init_stays program from all_words main memory (waiting frame stack ∷ below) control d object instance arguments may.0 may.1 h
      (waits control frame stack below w)
  act_stays frame below control memory (Leaves result) h may w =
      leave_stays program from all_words main memory frame below control result h w
  act_stays frame below control memory (Throws object) h may w =
      throw_stays program from all_words main memory (Runs frame ∷ below) control object h w
  act_stays frame below control memory (Raises class) h may w =
      raise_stays program from all_words main memory (Runs frame ∷ below) control class h w
  act_stays frame below control memory (Begins l) h may w =
      begin_stays program from all_words main memory (Runs frame ∷ below) control l h w

-- ---- a step

abbrev StaysAs : Program → Memory → List Frame → Control → State → Type 0
StaysAs program memory frames control t = Stays program memory (used_words frames + control.words) control.main t

its_words :
    (program : Program) (memory : Memory) (frames : List Frame) (control : Control)
    → HasWords program memory (used_words frames + control.words) control.main control frames
its_words program memory frames control = record { sum = refl; same_main = refl }

acted :
    (program : Program) (memory : Memory) (frame : MethodFrame) (below : List Frame) (control : Control) (insn : Instruction)
    → Leads State (StaysAs program memory (Runs frame ∷ below) control)
    (execute (context program memory control frame insn) insn >>= act program frame below control)
acted program memory frame below control insn =
    chained (IsStored (context program memory control frame insn)) (StaysAs program memory (Runs frame ∷ below) control)
    (execute (context program memory control frame insn) insn) (act program frame below control)
    (execute_stored (context program memory control frame insn) insn)
    (λ made h.
    act_stays program memory (used_words (Runs frame ∷ below) + control.words) control.main frame below control made.0 made.1 h.keeps h.may
    (its_words program memory (Runs frame ∷ below) control))

step_in_stays :
    (program : Program) (memory : Memory) (frames : List Frame) (control : Control)
    → Leads State (StaysAs program memory frames control) (step_in program memory frames control)
step_in_stays program memory [] control =
    leaf (StaysAs program memory [] control) (state_of memory [] control) (keeps_same memory, its_words program memory [] control)
step_in_stays program memory (Runs frame ∷ below) control =
    let known :
    (insn : Instruction)
    → Leads State (StaysAs program memory (Runs frame ∷ below) control)
    (execute (context program memory control frame insn) insn >>= act program frame below control) =
    λ insn. acted program memory frame below control insn in
    search (bound, known)
step_in_stays program memory (Initializes frame ∷ below) control =
    initialization_step_stays program memory (used_words (Initializes frame ∷ below) + control.words) control.main memory frame below
    control
    (keeps_same memory) (its_words program memory (Initializes frame ∷ below) control)

state_kept : (program : Program) (s t : State) → StaysAs program s.memory s.frames s.control t → KeepsState program.world s t
state_kept program s t h = record { memory = h.0; words_budget = h.1.sum; main = h.1.same_main }

pub step_kept : (program : Program) (s t : State) → step program s ≡ Ok t → KeepsState program.world s t
step_kept program s t e = state_kept program s t ((step_in_stays program s.memory s.frames s.control).at t e)

-- ---- any number of steps

pub state_over : (world : World) (a b c : State) → KeepsState world a b → KeepsState world b c → KeepsState world a c
state_over world a b c h k = record {
  memory = keeps_over a.memory b.memory c.memory h.memory k.memory;
  words_budget = k.words_budget ∙ h.words_budget;
  main = k.main ∙ h.main;
}

after_leads : (program : Program) (n : ℕ) (s : State) → Leads State (KeepsState program.world s) (after_steps program n s)
after_leads program zero s =
    leaf (KeepsState program.world s) s (record { memory = keeps_same s.memory; words_budget = refl; main = refl })
after_leads program (suc n) s =
    chained (KeepsState program.world s) (KeepsState program.world s) (after_steps program n s) (step program) (after_leads program n s)
    (λ t h. record { at = λ u e. state_over program.world s t u h (step_kept program t u e) })

pub after_kept : (program : Program) (n : ℕ) (s t : State) → after_steps program n s ≡ Ok t → KeepsState program.world s t
after_kept program n s t e = (after_leads program n s).at t e
