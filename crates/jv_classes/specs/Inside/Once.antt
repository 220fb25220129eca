-- Numbers that are kept once, with a mark for each.
use Rattle.std.specs.Prelude.{◌≡◌, ℕ, Bool, false, List, get_or, Option, Some, None}
use Rattle.std.specs.List.{list_any}
use Rattle.jv_classes.specs.Once.{is_same}

-- numbers below a size
pub record NumbersOnce : Type 0 where
  pub size : ℕ
  pub numbers : List (Option ℕ)

abbrev pub numbers_once : ℕ → List (Option ℕ) → NumbersOnce
numbers_once size numbers = record { size = size; numbers = numbers }

-- a number is marked exactly where it is there, and so is none
pub record AreMarkedOnce (marked : List Bool) (none : Bool) (numbers : List (Option ℕ)) : Type 0 where
  pub marks : (k : ℕ) → get_or marked k false ≡ list_any (is_same (Some k)) numbers
  pub missing : none ≡ list_any (is_same None) numbers
