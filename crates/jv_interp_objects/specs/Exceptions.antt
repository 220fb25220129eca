-- An object that the machine gives, in words: one that it made, or the OutOfMemoryError object of the start in its place (JVMS 2.10; own).
use Rattle.std.specs.Prelude.{◌≡◌, ℕ, List, ◌++◌, Some, slice_get}
use Rattle.jv_meaning_world.specs.World.{World}
use Rattle.jv_meaning_machine.specs.State.{Memory}
use Rattle.jv_interp_heap.specs.ObjectsInBlocks.{Blocks}
use Rattle.jv_interp_held.specs.declared.held.Held.{Held}
use Rattle.jv_interp_held.specs.HeldInWords.{MemoryStands}
use Rattle.jv_interp_held.specs.Growing.{Grows}

-- An object that the machine gives stands under an address, and its memory with the addresses of new objects behind the others.
pub record GivesObject (world : World) (texts : List (List ℕ)) (addresses : List ℕ) (before : Blocks) (made : Memory × ℕ)
    (held : Held) (after : Blocks) (address : ℕ) : Type 0 where
  pub more : List ℕ
  pub stands : slice_get (addresses ++ more) made.1 ≡ Some address
  pub memory : MemoryStands world texts made.0 (addresses ++ more) held after
  pub grows : Grows addresses more before after
