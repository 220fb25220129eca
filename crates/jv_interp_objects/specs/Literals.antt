-- String literals in words (JVMS 5.1): each text has one object, which is made where it is needed first.
use Rattle.std.specs.Prelude.{◌≡◌, ℕ, List, Option, Some, None, Ok, slice_get}
use Rattle.jv_meaning_world.specs.World.{World}
use Rattle.jv_meaning_machine.specs.Alone.{AreUnits}
use Rattle.jv_meaning_machine.specs.Literals.{literal}
use Rattle.jv_meaning_machine.specs.State.{Program, Memory}
use Rattle.jv_interp_heap.specs.ObjectsInBlocks.{Blocks}
use Rattle.jv_interp_held.specs.declared.held.Held.{Held}
use Rattle.jv_interp_held.specs.HeldInWords.{MemoryStands}
use Rattle.jv_interp_heap.specs.SystemNumbers.{IsGuestsWorld}
use Rattle.jv_interp_objects.specs.Exceptions.{GivesObject}

-- The machine gives the object of the text with a number, or lacks cells for it.
pub record FindingLiteral (number : ℕ) (text : List ℕ) (held : Held) (blocks : Blocks) (texts : List (List ℕ)) (program : Program)
    (memory : Memory) (addresses : List ℕ) (made : Option (Memory × ℕ)) : Type 0 where
  pub does : literal program text memory ≡ Ok made
  pub stands : MemoryStands program.world texts memory addresses held blocks
  pub number_is : slice_get texts number ≡ Some text
  pub units : AreUnits program.units
  pub guests : IsGuestsWorld program.world

pub record CanFindLiteral (number : ℕ) (text : List ℕ) (held : Held) (blocks : Blocks) : Type 0 where
  pub texts : List (List ℕ)
  pub program : Program
  pub memory : Memory
  pub addresses : List ℕ
  pub made : Option (Memory × ℕ)
  pub finds : FindingLiteral number text held blocks texts program memory addresses made

-- where its cells are not left, nothing changes
pub record NothingGiven (held held_after : Held) (before after : Blocks) : Type 0 where
  pub same_held : held_after ≡ held
  pub same : after ≡ before

abbrev pub LiteralGiven : World → List (List ℕ) → List ℕ → Held → Blocks → Option (Memory × ℕ) → Held → Blocks → Option ℕ → Type 0
LiteralGiven world texts addresses held before None held_after after None = NothingGiven held held_after before after
LiteralGiven world texts addresses held before (Some made) held_after after (Some address) =
    GivesObject world texts addresses before made held_after after address
LiteralGiven world texts addresses held before _ held_after after _ = ⊥

abbrev pub FindsLiteral : ℕ → List ℕ → Held → Blocks → Held → Blocks → Option ℕ → Type 0
FindsLiteral number text held before held_after after result =
    (texts : List (List ℕ)) (program : Program) (memory : Memory) (addresses : List ℕ) (made : Option (Memory × ℕ))
    → FindingLiteral number text held before texts program memory addresses made
    → LiteralGiven program.world texts addresses held before made held_after after result
