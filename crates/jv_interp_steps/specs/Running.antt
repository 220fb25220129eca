-- Steps one after the other (JVMS 2.11; own).
use Rattle.std.specs.Prelude.{◌≡◌, ℕ, zero, suc, Bool, List, [], Ok}
use Rattle.jv_meaning_world.specs.World.{World}
use Rattle.jv_meaning_machine.specs.State.{Program, State}
use Rattle.jv_meaning_machine.specs.Step.{step, after_steps}
use Rattle.jv_interp_words.specs.declared.registers.Registers.{Registers}
use Rattle.jv_interp_control.specs.Standing.{Kept, StateStands, Reaches}
use Rattle.jv_interp_control.specs.Running.{StateRuns}
use Rattle.jv_interp_steps.specs.Guests.{IsGuest, TakesStep}
use Rattle.jv_interp_steps.specs.Stepping.{RunsOn}

-- So many steps lead from a state to another one, and none was taken from one that has ended, which has no frames.
abbrev pub Leads : Program → ℕ → State → State → Type 0
Leads program zero s t = t ≡ s
Leads program (suc k) s t =
    (before : State) × Leads program k s before × (before.frames ≡ [] → ⊥) × (step program before ≡ Ok t)

-- Whatever number of steps is taken from a state, the next one meets no fault, and so much is known of the state before it: so it is for
-- verified code.
abbrev pub IsSafe : Program → State → Type 0
IsSafe program s = (n : ℕ) (later : State) → after_steps program n s ≡ Ok later → (t : State) × TakesStep program later t

-- ---- where all frames stand in their records

-- A state from which steps are taken stands.
pub record RunsFrom (world : World) (verified : List Bool) (program : Program) (texts : List (List ℕ)) (s : State)
    (addresses : List ℕ) (before : Kept) : Type 0 where
  pub guest : IsGuest world verified program
  pub safe : IsSafe program s
  pub stands : StateStands program texts s addresses before

pub record CanRun (world : World) (verified : List Bool) (texts : List (List ℕ)) (before : Kept) : Type 0 where
  pub program : Program
  pub s : State
  pub addresses : List ℕ
  pub runs : RunsFrom world verified program texts s addresses before

-- So many steps were taken, and the state behind them stands, with the addresses of new objects behind the others.
pub record Ran (k : ℕ) (program : Program) (texts : List (List ℕ)) (s : State) (addresses : List ℕ) (before after : Kept) : Type 0 where
  pub t : State
  pub does : Leads program k s t
  pub reaches : Reaches program texts t addresses before after

abbrev pub RanTo : ℕ → World → List Bool → List (List ℕ) → Kept → Kept → Type 0
RanTo k world verified texts before after =
    (program : Program) (s : State) (addresses : List ℕ) → RunsFrom world verified program texts s addresses before
    → Ran k program texts s addresses before after

-- ---- while a method runs in registers

-- A state from which steps are taken stands so.
pub record RunsIn (world : World) (verified : List Bool) (at : Registers) (program : Program) (texts : List (List ℕ)) (s : State)
    (addresses : List ℕ) (before : Kept) : Type 0 where
  pub guest : IsGuest world verified program
  pub safe : IsSafe program s
  pub runs : StateRuns program texts s addresses at before

pub record CanRunIn (world : World) (verified : List Bool) (texts : List (List ℕ)) (at : Registers) (before : Kept) : Type 0 where
  pub program : Program
  pub s : State
  pub addresses : List ℕ
  pub runs : RunsIn world verified at program texts s addresses before

-- So many steps were taken, and the method still goes on in its registers.
pub record RanOn (k : ℕ) (program : Program) (texts : List (List ℕ)) (s : State) (addresses : List ℕ) (at_after : Registers)
    (before after : Kept) : Type 0 where
  pub t : State
  pub does : Leads program k s t
  pub runs : RunsOn program texts t addresses at_after before after

abbrev pub RanOnTo : ℕ → World → List Bool → List (List ℕ) → Registers → Kept → Registers → Kept → Type 0
RanOnTo k world verified texts at before at_after after =
    (program : Program) (s : State) (addresses : List ℕ) → RunsIn world verified at program texts s addresses before
    → RanOn k program texts s addresses at_after before after

-- Or all frames stand in their records again.
abbrev pub RanFrom : ℕ → World → List Bool → List (List ℕ) → Registers → Kept → Kept → Type 0
RanFrom k world verified texts at before after =
    (program : Program) (s : State) (addresses : List ℕ) → RunsIn world verified at program texts s addresses before
    → Ran k program texts s addresses before after
