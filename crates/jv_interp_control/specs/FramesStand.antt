-- How all frames of a state stand in records and words (JVMS 2.5.2, 2.6).
use Rattle.std.specs.Prelude.{◌≡◌, ℕ, ◌+◌, ◌*◌, ◌<◌, ◌≤◌, List, length, reverse, vec_capacity}
use Rattle.jv_meaning_machine.specs.Frames.{Frame}
use Rattle.jv_meaning_machine.specs.State.{Program}
use Rattle.jv_meaning_machine.specs.Laws.Shapes.{used_words}
use Rattle.jv_interp_words.specs.FramesInWords.{in_use, AreFrames}
use Rattle.jv_interp_control.specs.declared.frames.Frames.{Frames}

-- Each frame stands in its record and its words; so many words are left to the guest, and all that it may have are there. A frame is
-- given four words at least, so there is room for a record of each.
pub record FramesStand (program : Program) (addresses : List ℕ) (frames : List Frame) (kept : Frames) (left : ℕ) : Type 0 where
  pub stand : AreFrames program addresses frames (reverse kept.records.items) (in_use kept.words.items kept.top)
  pub top_within : kept.top ≤ length kept.words.items
  pub left_is : left ≡ kept.left
  pub room : used_words frames + left ≤ length kept.words.items
  pub few : length kept.words.items < 4294967296
  pub records_fit : length kept.words.items ≤ 4 * vec_capacity kept.records
