-- How a guest starts, in words (JVMS 5.2; own).
use Rattle.std.specs.Prelude.{◌≡◌, ℕ, Bool, List, [], ◌∷◌, Option, Some, Ok, codes}
use Rattle.jv_meaning_world.specs.World.{Loaded, World, class_named}
use Rattle.jv_meaning_machine.specs.State.{Program, State, state_of}
use Rattle.jv_meaning_machine.specs.State.End.{Running}
use Rattle.jv_meaning_machine.specs.Initialization.{main_method}
use Rattle.jv_meaning_machine.specs.Start.{Budget as BudgetOfMachine, start_memory, start_control, start}
use Rattle.jv_lookups.specs.declared.place.Place.{Place}
use Rattle.jv_lookups.specs.Places.{IsMethodFound}
use Rattle.jv_interp_heap.specs.ObjectsInBlocks.{Blocks}
use Rattle.jv_interp_held.specs.Growing.{Grows}
use Rattle.jv_interp_heap.specs.SystemNumbers.{IsGuestsWorld}
use Rattle.jv_interp_control.specs.declared.frames.Frames.{Frames}
use Rattle.jv_interp_control.specs.declared.control.Control.{Control}
use Rattle.jv_interp_control.specs.FramesStand.{FramesStand}
use Rattle.jv_interp_control.specs.ControlStands.{ControlStands}
use Rattle.jv_interp_control.specs.Standing.{Kept, kept, StateStands}
use Rattle.jv_interp_control.specs.Moves.{AreVerified}
use Rattle.jv_interp.specs.declared.budget.Budget.{Budget}
use Rattle.jv_interp.specs.declared.first.Started.{Started}

abbrev pub budget_of : Budget → BudgetOfMachine
budget_of budget = record { cells = budget.cells; words = budget.words; output = budget.output }

-- what is kept of it, over a store
abbrev pub kept_of : Started → Blocks → Kept
kept_of started blocks = kept started.frames started.control started.held blocks

-- ---- before anything is begun

-- No frame stands, and there is room for so many words of frames and the records of so many.
abbrev pub FirstFrames : ℕ → Frames → Type 0
FirstFrames words frames = (program : Program) (addresses : List ℕ) → FramesStand program addresses [] frames words

-- The control of a guest with these classes whose main method is at this place, or which has none.
abbrev pub FirstControl : World → Option Place → Control → Type 0
FirstControl world place control =
    (main : List ℕ) (budget : BudgetOfMachine) → IsGuestsWorld world → IsMethodFound world place (main_method world main)
    → ControlStands world (start_control main budget Running) control

-- All of it.
abbrev pub FirstStands : World → List (List ℕ) → Option Place → List ℕ → Budget → Started → Blocks → Type 0
FirstStands world texts place input budget first blocks =
    (program : Program) (main : List ℕ) (error : Loaded) → program.world ≡ world → IsGuestsWorld program.world
    → IsMethodFound program.world place (main_method program.world main)
    → class_named program.world (codes "java/lang/OutOfMemoryError") ≡ Some error
    → StateStands program texts
    (state_of (start_memory program.world input (budget_of budget) error) [] (start_control main (budget_of budget) Running))
    (first.held.out_of_memory ∷ first.held.arguments ∷ []) (kept_of first blocks)

-- ---- the start

-- The machine's start of a guest with these classes, of which these were verified, gives this state.
pub record StartsIn (world : World) (verified : List Bool) (main input : List ℕ) (budget : Budget) (program : Program) (s : State)
    : Type 0 where
  pub world_is : program.world ≡ world
  pub guests : IsGuestsWorld program.world
  pub are : AreVerified program verified
  pub does : start program main input (budget_of budget) ≡ Ok s

-- There is such a guest.
pub record CanStart (world : World) (verified : List Bool) (main input : List ℕ) (budget : Budget) : Type 0 where
  pub program : Program
  pub s : State
  pub starts : StartsIn world verified main input budget program s

-- The state stands, with the addresses of the two objects of the start before that of an exception that was thrown at once; and the blocks
-- of other guests are as they were.
pub record StandsFirst (program : Program) (texts : List (List ℕ)) (s : State) (before : Blocks) (started : Started)
    (after : Blocks) : Type 0 where
  pub more : List ℕ
  pub stands : StateStands program texts s (started.held.out_of_memory ∷ started.held.arguments ∷ more) (kept_of started after)
  pub grows : Grows [] (started.held.out_of_memory ∷ started.held.arguments ∷ more) before after

-- For each such guest its state stands.
abbrev pub HasStarted : World → List Bool → List (List ℕ) → List ℕ → List ℕ → Budget → Blocks → Started → Blocks → Type 0
HasStarted world verified texts main input budget before started after =
    (program : Program) (s : State) → StartsIn world verified main input budget program s → StandsFirst program texts s before started after
