-- How a state of the machine stands while a method runs (JVMS 2.5.1, 2.6): the method in registers, the frames below it in their records,
-- and all else as between two steps.
use Rattle.std.specs.Prelude.{◌≡◌, ℕ, ◌+◌, ◌*◌, ◌<◌, ◌≤◌, List, length, vec_capacity}
use Rattle.jv_meaning_machine.specs.Frames.{Frame}
use Rattle.jv_meaning_machine.specs.State.{Program, State}
use Rattle.jv_meaning_machine.specs.Laws.Shapes.{used_words}
use Rattle.jv_interp_words.specs.declared.registers.Registers.{Registers}
use Rattle.jv_interp_words.specs.StatesInWords.{RunningStands}
use Rattle.jv_interp_held.specs.HeldInWords.{MemoryStands}
use Rattle.jv_interp_control.specs.declared.frames.Frames.{Frames}
use Rattle.jv_interp_control.specs.ControlStands.{ControlStands}
use Rattle.jv_interp_control.specs.Standing.{Kept}

-- So many words are left to the guest, and all that it may have are there. A frame is given four words at least, so there is room for a
-- record of each.
pub record HaveRoom (frames : List Frame) (left : ℕ) (kept : Frames) : Type 0 where
  pub left_is : left ≡ kept.left
  pub room : used_words frames + left ≤ length kept.words.items
  pub few : length kept.words.items < 4294967296
  pub records_fit : length kept.words.items ≤ 4 * vec_capacity kept.records

-- How many words are in use the registers tell, and `kept.frames.top` may be any.
pub record StateRuns (program : Program) (texts : List (List ℕ)) (s : State) (addresses : List ℕ) (at : Registers) (kept : Kept)
    : Type 0 where
  pub running : RunningStands program addresses s.frames at kept.frames.records.items kept.frames.words.items s.control.words
  pub rooms : HaveRoom s.frames s.control.words kept.frames
  pub control : ControlStands program.world s.control kept.control
  pub memory : MemoryStands program.world texts s.memory addresses kept.held kept.blocks
