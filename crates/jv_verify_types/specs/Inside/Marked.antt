-- Marks on names, by their numbers.
use Rattle.std.specs.Prelude.{◌≡◌, ℕ, ◌<◌, Bool, false, List, length, get_or, ◌||◌}
use Rattle.std.specs.List.{list_any}
use Rattle.std.specs.Str.{bytes_eq}
use Rattle.jv_pool.specs.Constants.{Entry}
use Rattle.jv_meaning_typing.specs.MemberRules.{is_that_name}
use Rattle.jv_verify_types.specs.Typed.{name_at}
use Rattle.jv_verify_types.specs.Inside.Named.{class_of_constant}
use Rattle.jv_verify_types.specs.PoolTypes.{PoolTypes}

-- the constant at an index names the class of this name
abbrev pub names_it : List Entry → List ℕ → ℕ → Bool
names_it pool name index = is_that_name name (class_of_constant pool index)

-- the names of the classes that the constants at these indices name are marked, and no others
pub record AreMarkedAt (names : List (List ℕ)) (pool : List Entry) (indices : List ℕ) (marks : List Bool) : Type 0 where
  pub size : length marks ≡ length names
  pub marked : (place : ℕ) → place < length names → get_or marks place false ≡ list_any (names_it pool (name_at names place)) indices

-- those among some names are marked, and no others
pub record AreNamesMarked (names : List (List ℕ)) (marked : List (List ℕ)) (marks : List Bool) : Type 0 where
  pub size : length marks ≡ length names
  pub mark : (place : ℕ) → place < length names → get_or marks place false ≡ list_any (λ other. bytes_eq other (name_at names place)) marked

-- the name of the class that the constant at an index names is marked beside those that were
abbrev pub IsNameMarked : PoolTypes → ℕ → List Bool → List Bool → Type 0
IsNameMarked constants index old new =
    (place : ℕ) → place < length constants.types.names
    → get_or new place false ≡ (get_or old place false || names_it constants.pool (name_at constants.types.names place) index)
