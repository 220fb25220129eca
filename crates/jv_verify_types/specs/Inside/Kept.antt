-- Names as a table keeps them.
use Rattle.std.specs.Prelude.{◌≡◌, ℕ, zero, suc, List, map, Option, Some, None, codes, position, slice_get}
use Rattle.std.specs.Str.{bytes_eq}
use Rattle.jv_meaning_world.specs.World.{World}
use Rattle.jv_meaning_world.specs.Numbers.{number_named}

abbrev pub AreDistinct : List (List ℕ) → Type 0
AreDistinct names = (number : ℕ) (name : List ℕ) → slice_get names number ≡ Some name → position (bytes_eq name) names ≡ Some number

-- the first name is java/lang/Object, no two are equal, and each has the number of its class, where there is one
pub record AreNames (world : World) (names : List (List ℕ)) (classes : List (Option ℕ)) : Type 0 where
  pub first : slice_get names 0 ≡ Some (codes "java/lang/Object")
  pub distinct : AreDistinct names
  pub numbered : classes ≡ map (number_named world) names

-- the number before one, where there is one: a number that is kept with room for none
abbrev pub number_before : ℕ → Option ℕ
number_before zero = None
number_before (suc number) = Some number
