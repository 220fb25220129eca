-- The method that runs, in registers, comes to stand among the frames that wait (JVMS 2.6).
use Rattle.std.specs.Prelude.{◌≡◌, ℕ, ◌+◌, ◌*◌, ◌<◌, ◌≤◌, List, ◌∷◌, length, reverse, vec_capacity}
use Rattle.jv_meaning_machine.specs.Frames.{MethodFrame, Frame}
use Rattle.jv_meaning_machine.specs.Frames.Frame.{Runs}
use Rattle.jv_meaning_machine.specs.State.{Program}
use Rattle.jv_meaning_machine.specs.Laws.Shapes.{used_words}
use Rattle.jv_interp_words.specs.declared.registers.Registers.{Registers}
use Rattle.jv_interp_words.specs.StatesInWords.{record_of}
use Rattle.jv_interp_words.specs.FramesInWords.{in_use, MethodStands, AreFrames}
use Rattle.jv_interp_control.specs.declared.frames.Frames.{Frames}
use Rattle.jv_interp_control.specs.FramesStand.{FramesStand}

-- It stands in so many words, on those of the others, which stand in their records. So many words are left.
pub record Suspending (at : Registers) (top : ℕ) (frames : Frames) (program : Program) (addresses : List ℕ) (frame : MethodFrame)
    (others : List Frame) (left : ℕ) : Type 0 where
  pub under : List ℕ
  pub current : MethodStands program addresses frame (record_of at) (in_use frames.words.items top) under
  pub others_stand : AreFrames program addresses others (reverse frames.records.items) under
  pub top_within : top ≤ length frames.words.items
  pub left_is : left ≡ frames.left
  pub room : used_words (Runs frame ∷ others) + left ≤ length frames.words.items
  pub few : length frames.words.items < 4294967296
  pub records_fit : length frames.words.items ≤ 4 * vec_capacity frames.records

pub record CanSuspend (at : Registers) (top : ℕ) (frames : Frames) : Type 0 where
  pub program : Program
  pub addresses : List ℕ
  pub frame : MethodFrame
  pub others : List Frame
  pub left : ℕ
  pub suspending : Suspending at top frames program addresses frame others left

abbrev pub Suspends : Registers → ℕ → Frames → Frames → Type 0
Suspends at top frames frames_after =
    (program : Program) (addresses : List ℕ) (frame : MethodFrame) (others : List Frame) (left : ℕ)
    → Suspending at top frames program addresses frame others left → FramesStand program addresses (Runs frame ∷ others) frames_after left
