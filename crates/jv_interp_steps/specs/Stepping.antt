-- A guest's next step while a method runs in registers (JVMS 2.11; own).
use Rattle.std.specs.Prelude.{ℕ, Bool, true, false, List, ◌++◌}
use Rattle.jv_meaning_world.specs.World.{World}
use Rattle.jv_meaning_machine.specs.State.{Program, State}
use Rattle.jv_interp_words.specs.declared.registers.Registers.{Registers}
use Rattle.jv_interp_held.specs.Growing.{Grows}
use Rattle.jv_interp_control.specs.Standing.{Kept, Reaches}
use Rattle.jv_interp_control.specs.Running.{StateRuns}
use Rattle.jv_interp_steps.specs.Guests.{IsGuest, TakesStep}

-- A state from which the next step is taken stands.
pub record StepsIn (world : World) (verified : List Bool) (at : Registers) (program : Program) (texts : List (List ℕ))
    (s t : State) (addresses : List ℕ) (before : Kept) : Type 0 where
  pub guest : IsGuest world verified program
  pub takes : TakesStep program s t
  pub runs : StateRuns program texts s addresses at before

-- There is such a state.
pub record CanStepIn (world : World) (verified : List Bool) (texts : List (List ℕ)) (at : Registers) (before : Kept) : Type 0 where
  pub program : Program
  pub s : State
  pub t : State
  pub addresses : List ℕ
  pub steps : StepsIn world verified at program texts s t addresses before

-- The method goes on in its registers, with the addresses of new objects behind the others; and the blocks of other guests are as they
-- were.
pub record RunsOn (program : Program) (texts : List (List ℕ)) (t : State) (addresses : List ℕ) (at : Registers)
    (before after : Kept) : Type 0 where
  pub more : List ℕ
  pub runs : StateRuns program texts t (addresses ++ more) at after
  pub grows : Grows addresses more before.blocks after.blocks

-- It does, or all frames stand in their records.
abbrev pub SteppedTo : Bool → Program → List (List ℕ) → State → List ℕ → Registers → Kept → Kept → Type 0
SteppedTo true program texts t addresses at before after = RunsOn program texts t addresses at before after
SteppedTo false program texts t addresses at before after = Reaches program texts t addresses before after

-- So it is for each such state.
abbrev pub SteppedIn : World → List Bool → List (List ℕ) → Registers → Kept → Registers → Kept → Bool → Type 0
SteppedIn world verified texts at before at_after after goes_on =
    (program : Program) (s t : State) (addresses : List ℕ) → StepsIn world verified at program texts s t addresses before
    → SteppedTo goes_on program texts t addresses at_after before after
