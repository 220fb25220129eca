-- The superinterface methods that a call can run (JVMS 5.4.3.3, 6.5).
use Rattle.std.specs.Prelude.{◌≡◌, ⊤, ℕ, List, [], ◌∷◌, filter, Some}
use Rattle.jv_meaning_world.specs.World.{Loaded, World}
use Rattle.jv_meaning_world.specs.Overriding.{Declared}
use Rattle.jv_meaning_world.specs.LookUps.{candidates, maximally_specific, is_concrete}
use Rattle.jv_lookups.specs.declared.defaults.Defaults.{Defaults}
use Rattle.jv_lookups.specs.declared.defaults.Defaults.TheVariants.{Absent, One, Several}
use Rattle.jv_lookups.specs.Places.{method_at, IsMethodPlace, HoldsWhereSearched}
use Rattle.jv_meaning_world.specs.Numbers.{HoldsAtNumber}

-- the maximally specific ones that are not abstract, in the order of the search
abbrev pub defaults : World → Loaded → List ℕ → List ℕ → List Declared
defaults world l name descriptor = filter is_concrete (maximally_specific world (candidates world l name descriptor))

-- there are two of them at least
pub record AreSeveral (methods : List Declared) : Type 0 where
  pub one : Declared
  pub other : Declared
  pub more : List Declared
  pub all : methods ≡ one ∷ other ∷ more

-- which they are: none, the one at a place, or several
abbrev pub AreDefaults : World → Defaults → List Declared → Type 0
AreDefaults world Absent methods = methods ≡ []
AreDefaults world (One place) methods = (d : Declared) × (method_at world place ≡ Some d) × (methods ≡ d ∷ [])
AreDefaults world Several methods = AreSeveral methods

abbrev pub IsDefaultPlace : World → Defaults → Type 0
IsDefaultPlace world (One place) = IsMethodPlace world place
IsDefaultPlace world _ = ⊤

-- of a class
abbrev pub AreDefaultsOf : World → ℕ → List ℕ → List ℕ → Defaults → Type 0
AreDefaultsOf world number name descriptor found =
    HoldsAtNumber world number (λ l. AreDefaults world found (defaults world l name descriptor))

-- and where its searches go by these numbers
abbrev pub AreDefaultsFrom : World → ℕ → List ℕ → List ℕ → List ℕ → Defaults → Type 0
AreDefaultsFrom world number searched name descriptor found =
    HoldsWhereSearched world number searched (λ l. AreDefaults world found (defaults world l name descriptor))
