-- The classes that a search for a member meets, class by class.
use Rattle.std.specs.Prelude.{◌≡◌, ℕ, ◌<◌, List, [], length, map, get_or}
use Rattle.std.specs.Global.{Vec}
use Rattle.jv_meaning_world.specs.World.{World}
use Rattle.jv_meaning_world.specs.LookUps.{searched_from}
use Rattle.jv_meaning_world.specs.Numbers.{HoldsAtNumber}
use Rattle.jv_meaning_world.specs.Numbers.{classes_at, AreNumbers}

abbrev pub numbers_in : Vec ℕ → List ℕ
numbers_in list = list.items

abbrev pub lists_of : List (Vec ℕ) → List (List ℕ)
lists_of lists = map numbers_in lists

-- the numbers of the classes that a search from the class with a number meets
pub record IsSearch (world : World) (number : ℕ) (list : List ℕ) : Type 0 where
  pub numbers : AreNumbers world list
  pub found : HoldsAtNumber world number (λ l. classes_at world list ≡ searched_from world l)

pub record AreSearches (world : World) (lists : List (List ℕ)) : Type 0 where
  pub many : length lists ≡ length world
  pub each : (number : ℕ) → number < length world → IsSearch world number (get_or lists number [])
