-- Elements by number, where both types have as many dimensions, and where the one has more (JVMS 6.5, instanceof).
use Rattle.std.specs.Prelude.{◌≡◌, ℕ, zero, suc, Bool, List}
use Rattle.jv_text.specs.declared.descriptor.Element.{Element}
use Rattle.jv_meaning_world.specs.World.{World}
use Rattle.jv_meaning_world.specs.Numbers.{IsNumbered}
use Rattle.jv_meaning_world.specs.Flow.{extended}
use Rattle.jv_meaning_machine.specs.Objects.{is_at_or_below}
use Rattle.jv_interp_heap.specs.ObjectsInBlocks.{IsElement}
use Rattle.jv_interp_heap.specs.SystemNumbers.{IsGuestsWorld}

-- the one is the other one, or below it
abbrev pub TellsElements : World → ℕ → ℕ → Bool → Type 0
TellsElements world from to answer =
    (a b : Element (List ℕ)) → IsElement world a from → IsElement world b to → answer ≡ extended (is_at_or_below world) zero a zero b

-- each array is below it
abbrev pub TellsAboveArrays : ℕ → Bool → Type 0
TellsAboveArrays element answer =
    (world : World) → IsGuestsWorld world → IsNumbered world → (a b : Element (List ℕ)) → IsElement world b element → (more : ℕ)
    → answer ≡ extended (is_at_or_below world) (suc more) a zero b
