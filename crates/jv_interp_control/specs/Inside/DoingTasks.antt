-- A task of an initialization is done, whose frame has those that are left behind it (JVMS 5.5).
use Rattle.std.specs.Prelude.{◌≡◌, ℕ, Bool, List, [], ◌∷◌, Some, None, Ok, slice_get}
use Rattle.jv_class.specs.Class.{Field, InitialValue}
use Rattle.jv_meaning_world.specs.World.{Loaded}
use Rattle.jv_meaning_world.specs.LookUps.{field_by}
use Rattle.jv_meaning_world.specs.Overriding.{Declared}
use Rattle.jv_lookups.specs.Places.{method_at}
use Rattle.jv_meaning_machine.specs.Frames.{InitializationFrame, Frame}
use Rattle.jv_meaning_machine.specs.Frames.Frame.{Initializes}
use Rattle.jv_meaning_machine.specs.Frames.Task.{SetsField}
use Rattle.jv_meaning_machine.specs.State.{Program, State}
use Rattle.jv_meaning_machine.specs.Alone.{AreUnits}
use Rattle.jv_meaning_machine.specs.Entering.{enter}
use Rattle.jv_meaning_machine.specs.Initialization.{do_task}
use Rattle.jv_interp_control.specs.declared.frames.Frames.{Frames}
use Rattle.jv_interp_control.specs.FramesStand.{FramesStand}
use Rattle.jv_interp_control.specs.Moves.{Beginning}
use Rattle.jv_interp_control.specs.declared.tasks.Task.{Task}
use Rattle.jv_interp_control.specs.declared.tasks.Task.TheVariants as tasks

-- the static field at a place of a class gets its constant
pub record Setting (class member : ℕ) (program : Program) (addresses : List ℕ) (s t : State) : Type 0 where
  pub l : Loaded
  pub f : Field
  pub constant : InitialValue
  pub class_is : slice_get program.world class ≡ Some l
  pub field_is : slice_get l.class.fields member ≡ Some f
  pub initial : f.initial ≡ Some constant
  pub units : AreUnits program.units
  pub does : do_task program s.memory s.frames s.control (SetsField (field_by l f) constant) ≡ Ok t

-- the `<clinit>` at a place of a class runs
pub record RunningInitializer (class member : ℕ) (program : Program) (addresses : List ℕ) (s t : State) : Type 0 where
  pub d : Declared
  pub at : method_at program.world (record { class = class; member = member }) ≡ Some d
  pub does : enter program s.memory s.frames s.control d None [] ≡ Ok t

abbrev pub DoingTask : ℕ → Task → List Bool → Program → List ℕ → State → State → Type 0
DoingTask class (tasks.Sets member) verified = Setting class member
DoingTask class (tasks.Begins number) verified = Beginning number verified
DoingTask class (tasks.Runs member) verified = RunningInitializer class member

-- ---- the newest frame is an initialization

pub record CanTake (frames : Frames) : Type 0 where
  pub program : Program
  pub addresses : List ℕ
  pub frame : InitializationFrame
  pub below : List Frame
  pub left : ℕ
  pub stand : FramesStand program addresses (Initializes frame ∷ below) frames left
