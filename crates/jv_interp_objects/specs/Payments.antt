-- New blocks, paid from the cells that are left to a guest (own): one for each word.
use Rattle.std.specs.Prelude.{◌≡◌, ℕ, ◌+◌, ◌<◌, List, Option, Some, None}
use Rattle.jv_interp_heap.specs.ObjectsInBlocks.{Blocks}
use Rattle.jv_interp_heap.specs.NewBlocks.{Joins}

-- The cells are not left, and nothing changes.
pub record IsLacking (cost cells cells_after : ℕ) (before after : Blocks) : Type 0 where
  pub lacks : cells < cost
  pub same_cells : cells_after ≡ cells
  pub same : after ≡ before

-- A block of these words joined the others, and its cells were taken.
pub record IsMade (words : List ℕ) (cost cells cells_after : ℕ) (before after : Blocks) (address : ℕ) : Type 0 where
  pub paid : cells_after + cost ≡ cells
  pub joins : Joins words before after address

abbrev pub IsPaid : List ℕ → ℕ → ℕ → ℕ → Blocks → Blocks → Option ℕ → Type 0
IsPaid words cost cells cells_after before after None = IsLacking cost cells cells_after before after
IsPaid words cost cells cells_after before after (Some address) = IsMade words cost cells cells_after before after address
