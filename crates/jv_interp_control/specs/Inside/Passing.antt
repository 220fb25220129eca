-- Frames that a throw passes (JVMS 2.10, 5.5): their words are given back, and the class of an initialization becomes erroneous.
use Rattle.std.specs.Prelude.{◌≡◌, ℕ, ◌≤◌, List, [], ◌∷◌, Some, drop, length, slice_get, take}
use Rattle.jv_meaning_world.specs.World.{World}
use Rattle.jv_meaning_machine.specs.Frames.{MethodFrame, Frame}
use Rattle.jv_meaning_machine.specs.Frames.Frame.{Runs, Initializes}
use Rattle.jv_meaning_machine.specs.State.{Program, Control as ControlOfNames, with_state}
use Rattle.jv_meaning_machine.specs.State.ClassState.{Erroneous}
use Rattle.jv_meaning_machine.specs.Costs.{method_words, initialization_words, with_words_back}
use Rattle.jv_meaning_machine.specs.Throws.{at_handler}
use Rattle.jv_interp_members.specs.declared.methods.Methods.{Methods}
use Rattle.jv_interp_members.specs.Methods.{AreMethods}
use Rattle.jv_interp_control.specs.declared.frames.Frames.{Frames}
use Rattle.jv_interp_control.specs.declared.control.Control.{Control}
use Rattle.jv_interp_control.specs.FramesStand.{FramesStand}
use Rattle.jv_interp_control.specs.ControlStands.{ControlStands}

abbrev pub passed : Frame → ControlOfNames → ControlOfNames
passed (Runs frame) control = with_words_back (method_words frame) control
passed (Initializes frame) control = with_state Erroneous frame.class (with_words_back initialization_words control)

abbrev pub all_passed : List Frame → ControlOfNames → ControlOfNames
all_passed [] control = control
all_passed (frame ∷ frames) control = all_passed frames (passed frame control)

-- ---- the newest frame is passed

pub record Passing (world : World) (program : Program) (addresses : List ℕ) (frame : Frame) (below : List Frame)
    (control : ControlOfNames) (frames : Frames) (kept : Control) : Type 0 where
  pub world_is : program.world ≡ world
  pub stand : FramesStand program addresses (frame ∷ below) frames control.words
  pub control_stands : ControlStands program.world control kept

pub record CanPass (world : World) (frames : Frames) (kept : Control) : Type 0 where
  pub program : Program
  pub addresses : List ℕ
  pub frame : Frame
  pub below : List Frame
  pub control : ControlOfNames
  pub passing : Passing world program addresses frame below control frames kept

pub record Passed (program : Program) (addresses : List ℕ) (frame : Frame) (below : List Frame) (control : ControlOfNames)
    (frames : Frames) (kept : Control) : Type 0 where
  pub stand : FramesStand program addresses below frames (passed frame control).words
  pub control_stands : ControlStands program.world (passed frame control) kept

abbrev pub Passes : World → Frames → Control → Frames → Control → Type 0
Passes world frames kept frames_after kept_after =
    (program : Program) (addresses : List ℕ) (frame : Frame) (below : List Frame) (control : ControlOfNames)
    → Passing world program addresses frame below control frames kept → Passed program addresses frame below control frames_after kept_after

-- ---- so many frames are passed

pub record PassingAll (world : World) (count : ℕ) (program : Program) (addresses : List ℕ) (all : List Frame)
    (control : ControlOfNames) (frames : Frames) (kept : Control) : Type 0 where
  pub world_is : program.world ≡ world
  pub stand : FramesStand program addresses all frames control.words
  pub control_stands : ControlStands program.world control kept
  pub within : count ≤ length all

pub record CanPassAll (world : World) (count : ℕ) (frames : Frames) (kept : Control) : Type 0 where
  pub program : Program
  pub addresses : List ℕ
  pub all : List Frame
  pub control : ControlOfNames
  pub passing : PassingAll world count program addresses all control frames kept

pub record PassedAll (count : ℕ) (program : Program) (addresses : List ℕ) (all : List Frame) (control : ControlOfNames)
    (frames : Frames) (kept : Control) : Type 0 where
  pub stand : FramesStand program addresses (drop count all) frames (all_passed (take count all) control).words
  pub control_stands : ControlStands program.world (all_passed (take count all) control) kept

-- the same, where more of them are to be passed
abbrev pub PassesUpTo : World → ℕ → ℕ → Frames → Control → Frames → Control → Type 0
PassesUpTo world count passed_now frames kept frames_after kept_after =
    (program : Program) (addresses : List ℕ) (all : List Frame) (control : ControlOfNames)
    → PassingAll world count program addresses all control frames kept
    → PassedAll passed_now program addresses all control frames_after kept_after

abbrev pub PassesAll : World → ℕ → Frames → Control → Frames → Control → Type 0
PassesAll world count frames kept frames_after kept_after = PassesUpTo world count count frames kept frames_after kept_after

-- ---- a handler of the newest frame takes what is thrown

pub record Catching (methods : Methods) (frames : Frames) (address : ℕ) (program : Program) (addresses : List ℕ)
    (frame : MethodFrame) (below : List Frame) (left object : ℕ) : Type 0 where
  pub are : AreMethods program.world methods
  pub stand : FramesStand program addresses (Runs frame ∷ below) frames left
  pub at : slice_get addresses object ≡ Some address
  pub has_stack : 1 ≤ frame.method.code.max_stack

pub record CanCatch (methods : Methods) (frames : Frames) (address : ℕ) : Type 0 where
  pub program : Program
  pub addresses : List ℕ
  pub frame : MethodFrame
  pub below : List Frame
  pub left : ℕ
  pub object : ℕ
  pub catching : Catching methods frames address program addresses frame below left object

abbrev pub Catches : Methods → Frames → ℕ → ℕ → Frames → Type 0
Catches methods frames pc address frames_after =
    (program : Program) (addresses : List ℕ) (frame : MethodFrame) (below : List Frame) (left object : ℕ)
    → Catching methods frames address program addresses frame below left object
    → FramesStand program addresses (at_handler frame pc object ∷ below) frames_after left
