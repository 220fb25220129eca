-- Exceptions that the machine makes (own).
use Rattle.std.specs.Prelude.{◌≡◌, ℕ, ◌+◌, ◌≤◌, ◌∷◌, Option, Some, None, replicate}
use Rattle.jv_interp_heap.specs.ObjectsInBlocks.{Blocks}
use Rattle.jv_interp_heap.specs.NewBlocks.{Joins}

-- An object of the class with a number was made, which has so many words and costs a cell more; or it was not, as its cells are not left.
abbrev pub IsMade : ℕ → ℕ → ℕ → ℕ → Blocks → Blocks → Option ℕ → Type 0
IsMade class words cells cells_after before after None = (cells ≤ words) × (cells_after ≡ cells) × (after ≡ before)
IsMade class words cells cells_after before after (Some address) =
    (1 + words + cells_after ≡ cells) × Joins (class ∷ replicate words 0) before after address
