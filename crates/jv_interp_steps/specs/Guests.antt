-- What holds of a guest in each of its states (JVMS 4.9, 4.10, 5.3; own).
use Rattle.std.specs.Prelude.{◌≡◌, ◌≤◌, ⊤, Bool, List, [], ◌∷◌, Ok, IsTrue, length}
use Rattle.jv_meaning_world.specs.World.{World}
use Rattle.jv_meaning_world.specs.Verdicts.{is_loadable}
use Rattle.jv_meaning_machine.specs.Frames.{Frame}
use Rattle.jv_meaning_machine.specs.Frames.Frame.{Runs, Initializes}
use Rattle.jv_meaning_machine.specs.State.{Program, State}
use Rattle.jv_meaning_machine.specs.Alone.{FindsInstructions, AreUnits}
use Rattle.jv_meaning_machine.specs.Step.{step}
use Rattle.jv_interp_heap.specs.ObjectsInBlocks.{AreLoadable}
use Rattle.jv_interp_heap.specs.SystemNumbers.{IsGuestsWorld}
use Rattle.jv_interp_control.specs.Moves.{AreVerified}

-- These are its classes, at most 2,083 of them (own): the system's 35, those of 1,024 files of a library, and those of 1,024 of a guest.
-- The machine knows their code and their texts, and of each class it is known whether it was verified with all above it.
pub record IsGuest (world : World) (verified : List Bool) (program : Program) : Type 0 where
  pub world_is : program.world ≡ world
  pub guests : IsGuestsWorld program.world
  pub few : length world ≤ 2083
  pub finds : FindsInstructions program.instructions
  pub units : AreUnits program.units
  pub are : AreVerified program verified

-- the class of the newest frame, where that is an initialization, can be loaded (5.3.5)
abbrev pub IsLoadableOnTop : World → List Frame → Type 0
IsLoadableOnTop world [] = ⊤
IsLoadableOnTop world (Runs frame ∷ below) = ⊤
IsLoadableOnTop world (Initializes frame ∷ below) = IsTrue (is_loadable world frame.class)

-- The next step meets no fault; and so much is known of the classes of its objects, and of the one that is initialized.
pub record TakesStep (program : Program) (s t : State) : Type 0 where
  pub objects : AreLoadable program.world s.memory.objects
  pub initialized : IsLoadableOnTop program.world s.frames
  pub does : step program s ≡ Ok t
