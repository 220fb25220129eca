-- Blocks in plain lists.
use Rattle.std.specs.Prelude.{ℕ, Bool, true, ◌&&◌, nat_lt, List, [], ◌∷◌}

-- addresses rise, the first from above a number
abbrev pub mounting : ℕ → List (ℕ × List ℕ) → Bool
mounting before [] = true
mounting before (block ∷ blocks) = nat_lt before block.0 && mounting block.0 blocks
