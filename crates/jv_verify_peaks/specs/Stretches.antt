-- Numbers by place, and stretches of them, from a place on up to another.
use Rattle.std.specs.Prelude.{◌≡◌, ◌⊎◌, ℕ, ◌≤◌, ◌<◌, ◌+◌, List, get_or}

-- each of a stretch is at most a bound
abbrev pub AreAtMost : (bound from to : ℕ) → (numbers : List ℕ) → Type 0
AreAtMost bound from to numbers = (k : ℕ) → from ≤ k → k < to → get_or numbers k 0 ≤ bound

-- the first of a stretch that is above a bound
pub record IsFirstAbove (bound from to place : ℕ) (numbers : List ℕ) : Type 0 where
  pub least : from ≤ place
  pub before : place < to
  pub above : bound < get_or numbers place 0
  pub first : AreAtMost bound from place numbers

-- the last before a place that is above a bound
pub record IsLastAbove (bound to place : ℕ) (numbers : List ℕ) : Type 0 where
  pub before : place < to
  pub above : bound < get_or numbers place 0
  pub last : AreAtMost bound (place + 1) to numbers

-- the greatest of a stretch, or 0 where there is none
pub record IsGreatest (from to : ℕ) (numbers : List ℕ) (greatest : ℕ) : Type 0 where
  pub bounds : AreAtMost greatest from to numbers
  pub reached : (greatest ≡ 0) ⊎ ((k : ℕ) × (from ≤ k) × (k < to) × (get_or numbers k 0 ≡ greatest))
