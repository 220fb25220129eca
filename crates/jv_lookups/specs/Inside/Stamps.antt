-- Marks as numbers that bear a stamp.
use Rattle.std.specs.Prelude.{ℕ, ◌≤◌, ◌==◌, Bool, List, map}
use Rattle.std.specs.List.{All}

-- marked is what bears this stamp
abbrev pub marked_by : ℕ → List ℕ → List Bool
marked_by stamp stamps = map (λ s. s == stamp) stamps

-- no stamp is later than this one
abbrev pub AreUpTo : ℕ → List ℕ → Type 0
AreUpTo stamp stamps = All (λ s. s ≤ stamp) stamps
