-- What steps that work on the words of their frame alone leave of all frames as it was (JVMS 2.6).
use Rattle.std.specs.Prelude.{◌≡◌, length, vec_capacity}
use Rattle.jv_interp_control.specs.declared.frames.Frames.{Frames}

-- The words may be others, and as many; the frames that wait and what is left to the guest are those before.
pub record OnlyInWords (before after : Frames) : Type 0 where
  pub size : length after.words.items ≡ length before.words.items
  pub records : after.records.items ≡ before.records.items
  pub capacity : vec_capacity after.records ≡ vec_capacity before.records
  pub left : after.left ≡ before.left
