-- What holds of each item of a list, by its place.
use Rattle.std.specs.Prelude.{◌≡◌, ℕ, List, length, Some, slice_get}

-- so many items, and each is right at its place
pub record Each {X : Type 0} (P : ℕ → X → Type 0) (count : ℕ) (xs : List X) : Type 0 where
  pub count_of : length xs ≡ count
  pub each : (place : ℕ) (x : X) → slice_get xs place ≡ Some x → P place x
