-- How a state of the machine stands in all that is kept of a guest between two steps (JVMS 2.5, 2.6), and what it means that what the
-- machine does to the state was done there.
use Rattle.std.specs.Prelude.{◌≡◌, ℕ, List, ◌++◌}
use Rattle.jv_meaning_world.specs.World.{World}
use Rattle.jv_meaning_machine.specs.State.{Program, State}
use Rattle.jv_interp_heap.specs.ObjectsInBlocks.{Blocks}
use Rattle.jv_interp_held.specs.declared.held.Held.{Held}
use Rattle.jv_interp_held.specs.HeldInWords.{MemoryStands}
use Rattle.jv_interp_held.specs.Growing.{Grows}
use Rattle.jv_interp_heap.specs.SystemNumbers.{IsGuestsWorld}
use Rattle.jv_interp_control.specs.declared.frames.Frames.{Frames}
use Rattle.jv_interp_control.specs.declared.control.Control.{Control}
use Rattle.jv_interp_control.specs.FramesStand.{FramesStand}
use Rattle.jv_interp_control.specs.ControlStands.{ControlStands}

-- what is kept of a guest: its frames, its control, what it holds, and the blocks of the store
pub record Kept : Type 0 where
  pub frames : Frames
  pub control : Control
  pub held : Held
  pub blocks : Blocks

abbrev pub kept : Frames → Control → Held → Blocks → Kept
kept frames control held blocks = record { frames = frames; control = control; held = held; blocks = blocks }

pub record StateStands (program : Program) (texts : List (List ℕ)) (s : State) (addresses : List ℕ) (kept : Kept) : Type 0 where
  pub frames : FramesStand program addresses s.frames kept.frames s.control.words
  pub control : ControlStands program.world s.control kept.control
  pub memory : MemoryStands program.world texts s.memory addresses kept.held kept.blocks

-- ---- what the machine does: a relation between a program, the addresses of objects, and the states before and after

-- It does this in a state that stands, of a guest whose classes are these.
pub record Moves (world : World) (part : Program → List ℕ → State → State → Type 0) (program : Program) (texts : List (List ℕ))
    (s t : State) (addresses : List ℕ) (before : Kept) : Type 0 where
  pub world_is : program.world ≡ world
  pub guests : IsGuestsWorld program.world
  pub stands : StateStands program texts s addresses before
  pub does : part program addresses s t

-- There is such a state.
pub record CanMove (world : World) (part : Program → List ℕ → State → State → Type 0) (before : Kept) : Type 0 where
  pub program : Program
  pub texts : List (List ℕ)
  pub s : State
  pub t : State
  pub addresses : List ℕ
  pub moves : Moves world part program texts s t addresses before

-- The state after stands, with the addresses of new objects behind the others; and the blocks of other guests are as they were.
pub record Reaches (program : Program) (texts : List (List ℕ)) (t : State) (addresses : List ℕ) (before after : Kept) : Type 0 where
  pub more : List ℕ
  pub stands : StateStands program texts t (addresses ++ more) after
  pub grows : Grows addresses more before.blocks after.blocks

-- For each such state it was done.
abbrev pub Moved : World → (Program → List ℕ → State → State → Type 0) → Kept → Kept → Type 0
Moved world part before after =
    (program : Program) (texts : List (List ℕ)) (s t : State) (addresses : List ℕ)
    → Moves world part program texts s t addresses before → Reaches program texts t addresses before after
