-- Blocks that join a store.
use Rattle.std.specs.Prelude.{◌≡◌, ℕ, ◌<◌, List, [], ◌∷◌, ◌++◌}
use Rattle.jv_store.specs.Content.{greatest}
use Rattle.jv_interp_heap.specs.ObjectsInBlocks.{Blocks}

-- a block of these words joins behind the others, at an address above theirs
pub record Joins (words : List ℕ) (before after : Blocks) (address : ℕ) : Type 0 where
  pub above : greatest before < address
  pub joins : after ≡ before ++ (address, words) ∷ []
