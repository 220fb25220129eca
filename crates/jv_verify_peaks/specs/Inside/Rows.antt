-- A row of the greatest of so many numbers each.
use Rattle.std.specs.Prelude.{◌≡◌, ℕ, ◌≤◌, ◌<◌, ◌*◌, ◌+◌, ◌/◌, List, get_or, length}

-- the number at a place in a row is the greatest of as many numbers as the row has one for; it has one wherever there are so many
pub record IsRow (size : ℕ) (numbers row : List ℕ) : Type 0 where
  pub many : (n : ℕ) → (n + 1) * size ≤ length numbers → n < length row
  pub bounds : (k : ℕ) → k < length numbers → k / size < length row → get_or numbers k 0 ≤ get_or row (k / size) 0
  pub reached : (n : ℕ) → (n + 1) * size ≤ length numbers → (k : ℕ) × (k / size ≡ n) × (get_or numbers k 0 ≡ get_or row n 0)
