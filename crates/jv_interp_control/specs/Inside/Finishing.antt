-- The end of an initialization, whose record is gone (JVMS 5.5, step 10).
use Rattle.std.specs.Prelude.{◌≡◌, ℕ, ◌+◌, ◌≤◌, List, Some, Ok, length, slice_get, slice_set}
use Rattle.jv_meaning_world.specs.World.{Loaded, World}
use Rattle.jv_meaning_machine.specs.Frames.{Frame}
use Rattle.jv_meaning_machine.specs.State.{Program, Control as ControlOfNames, State}
use Rattle.jv_meaning_machine.specs.Initialization.{finish, finished}
use Rattle.jv_meaning_machine.specs.Laws.Shapes.{used_words}
use Rattle.jv_interp_held.specs.declared.class_state.ClassState.{ClassState}
use Rattle.jv_interp_control.specs.declared.frames.Frames.{Frames}
use Rattle.jv_interp_control.specs.declared.control.Control.{Control}
use Rattle.jv_interp_control.specs.FramesStand.{FramesStand}
use Rattle.jv_interp_control.specs.ControlStands.{ControlStands}

-- The class with a number is initialized, above these frames; the words of the initialization are given back. Where no frame is left main
-- is entered.
pub record Finishing (class : ℕ) (frames : Frames) (program : Program) (addresses : List ℕ) (s t : State) : Type 0 where
  pub l : Loaded
  pub class_is : slice_get program.world class ≡ Some l
  pub room : 4 + (used_words s.frames + s.control.words) ≤ length frames.words.items
  pub does : finish program s.memory s.frames (finished l s.control) ≡ Ok t

-- ---- the class's state, and the words

-- Frames and control stand, without the initialization's record, and there is room for its words.
pub record Marking (world : World) (class : ℕ) (frames : Frames) (kept : Control) (program : Program) (addresses : List ℕ)
    (all : List Frame) (control : ControlOfNames) (l : Loaded) : Type 0 where
  pub world_is : program.world ≡ world
  pub class_is : slice_get program.world class ≡ Some l
  pub stand : FramesStand program addresses all frames control.words
  pub control_stands : ControlStands program.world control kept
  pub room : 4 + (used_words all + control.words) ≤ length frames.words.items

pub record CanMark (world : World) (class : ℕ) (frames : Frames) (kept : Control) : Type 0 where
  pub program : Program
  pub addresses : List ℕ
  pub all : List Frame
  pub control : ControlOfNames
  pub l : Loaded
  pub marking : Marking world class frames kept program addresses all control l

-- The class is initialized, and its initialization's words are left again.
pub record Marked (program : Program) (addresses : List ℕ) (all : List Frame) (control : ControlOfNames) (l : Loaded)
    (frames : Frames) (kept : Control) : Type 0 where
  pub stand : FramesStand program addresses all frames (finished l control).words
  pub control_stands : ControlStands program.world (finished l control) kept

abbrev pub Marks : World → ℕ → Frames → Control → Frames → Control → Type 0
Marks world class frames kept frames_after kept_after =
    (program : Program) (addresses : List ℕ) (all : List Frame) (control : ControlOfNames) (l : Loaded)
    → Marking world class frames kept program addresses all control l → Marked program addresses all control l frames_after kept_after

-- with the state that the class had the states are as before
abbrev pub CanSetBack : ℕ → List ClassState → List ClassState → Type 0
CanSetBack class before after = (state : ClassState) → slice_get before class ≡ Some state → slice_set after class state ≡ before
