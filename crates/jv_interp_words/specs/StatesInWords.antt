-- How the frames of a state stand in registers, records and words (JVMS 2.5.1, 2.6), while a method runs.
use Rattle.std.specs.Prelude.{◌≡◌, ℕ, ◌+◌, ◌≤◌, List, ◌∷◌, length, reverse}
use Rattle.jv_meaning_machine.specs.Frames.{MethodFrame, Frame}
use Rattle.jv_meaning_machine.specs.Frames.Frame.{Runs}
use Rattle.jv_meaning_machine.specs.State.{Program}
use Rattle.jv_meaning_machine.specs.Laws.Shapes.{used_words}
use Rattle.jv_interp_words.specs.declared.records.MethodRecord.{MethodRecord}
use Rattle.jv_interp_words.specs.declared.records.FrameRecord.{FrameRecord}
use Rattle.jv_interp_words.specs.declared.registers.Registers.{Registers}
use Rattle.jv_interp_words.specs.FramesInWords.{in_use, MethodStands, AreFrames}

-- the record that registers would be kept in
abbrev pub record_of : Registers → MethodRecord
record_of at = record { method = at.method; pc = at.pc; base = at.base }

-- The current frame is the method's that the registers tell, whose code these are; below it stand the others, kept in records, the
-- newest last. So many words are left to the guest, and all that it may have are there.
pub record RunningStands (program : Program) (addresses : List ℕ) (frames : List Frame) (at : Registers)
    (waiting : List FrameRecord) (words : List ℕ) (left : ℕ) : Type 0 where
  pub frame : MethodFrame
  pub others : List Frame
  pub frames_are : frames ≡ Runs frame ∷ others
  pub below : List ℕ
  pub current : MethodStands program addresses frame (record_of at) (in_use words at.top) below
  pub others_stand : AreFrames program addresses others (reverse waiting) below
  pub code_is : at.code.now ≡ frame.method.code.code
  pub top_within : at.top ≤ length words
  pub room : used_words frames + left ≤ length words
