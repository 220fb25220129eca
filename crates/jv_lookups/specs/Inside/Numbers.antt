-- Numbers below a size, with a mark for each.
use Rattle.std.specs.Prelude.{◌≡◌, ℕ, Bool, false, List, length, get_or, nat_eq}
use Rattle.std.specs.List.{list_any}
use Rattle.jv_meaning_world.specs.World.{World}
use Rattle.jv_meaning_world.specs.Numbers.{AreNumbers}

pub record NumbersBelow : Type 0 where
  pub size : ℕ
  pub numbers : List ℕ

abbrev pub numbers_below : ℕ → List ℕ → NumbersBelow
numbers_below size numbers = record { size = size; numbers = numbers }

-- a number is marked exactly where it is there
abbrev pub AreNumbersMarked : List Bool → List ℕ → Type 0
AreNumbersMarked marks numbers = (k : ℕ) → get_or marks k false ≡ list_any (nat_eq k) numbers

-- they are numbers of a world's classes
pub record AreNumbersOf (world : World) (begun : NumbersBelow) : Type 0 where
  pub size : begun.size ≡ length world
  pub numbers : AreNumbers world begun.numbers
