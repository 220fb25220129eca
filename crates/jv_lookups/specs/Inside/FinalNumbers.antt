-- How packages get their numbers.
use Rattle.std.specs.Prelude.{◌≡◌, ℕ, ◌+◌, ◌*◌, ◌<◌, Bool, true, false, List, [], ◌∷◌, length, get_or, if◌then◌else◌}
use Rattle.std.specs.Str.{bytes_eq}
use Rattle.jv_meaning_world.specs.World.{Loaded, package_of}

-- the text stands at this place, and not before
pub record IsFirstAt (names : List (List ℕ)) (text : List ℕ) (place : ℕ) : Type 0 where
  pub within : place < length names
  pub here : bytes_eq text (get_or names place []) ≡ true
  pub not_before : (k : ℕ) → k < place → bytes_eq text (get_or names k []) ≡ false

-- two numbers for each name, one for each loader
abbrev pub number_at : ℕ → Bool → ℕ
number_at place by_system = 2 * place + (if by_system then 1 else 0)

-- the number of a class's package by the names of packages
pub record IsNumber (names : List (List ℕ)) (l : Loaded) (number : ℕ) : Type 0 where
  pub place : ℕ
  pub first : IsFirstAt names (package_of l.class.name) place
  pub is : number ≡ number_at place l.by_system

abbrev pub AreTheirs : List (List ℕ) → List Loaded → List ℕ → Type 0
AreTheirs names [] [] = Unit {0}
AreTheirs names (l ∷ classes) (n ∷ numbers) = IsNumber names l n × AreTheirs names classes numbers
AreTheirs names _ _ = ⊥
