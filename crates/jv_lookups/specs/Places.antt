-- The members at their places.
use Rattle.std.specs.Prelude.{ℕ, ◌<◌, length, Option, slice_get, List, ◌∷◌, ◌≡◌, Some}
use Rattle.std.specs.Option.{option_map, option_and_then}
use Rattle.jv_format.specs.Format.{◌>>=◌}
use Rattle.jv_meaning_world.specs.World.{Loaded, World}
use Rattle.jv_meaning_world.specs.Overriding.{Declared}
use Rattle.jv_meaning_world.specs.Verdicts.{declared_by}
use Rattle.jv_meaning_world.specs.LookUps.{DeclaredField, field_by, first_found, method_in, searched_from, lookup_field, lookup_method}
use Rattle.jv_meaning_world.specs.Above.{superclasses}
use Rattle.jv_meaning_world.specs.Numbers.{HoldsAtNumber, classes_at}
use Rattle.jv_lookups.specs.declared.place.Place.{Place}

-- the field at a place, with the class that declares it (JVMS 4.5)
abbrev pub field_in : ℕ → Loaded → Option DeclaredField
field_in member l = option_map (field_by l) (slice_get l.class.fields member)

abbrev pub field_at : World → Place → Option DeclaredField
field_at world place = slice_get world place.class >>= field_in place.member

-- the place is that of a field
pub record IsFieldPlace (world : World) (place : Place) : Type 0 where
  pub class : place.class < length world
  pub member : HoldsAtNumber world place.class (λ l. place.member < length l.class.fields)

-- the method at a place, with the class that declares it (JVMS 4.6)
abbrev pub method_of : ℕ → Loaded → Option Declared
method_of member l = option_map (declared_by l) (slice_get l.class.methods member)

abbrev pub method_at : World → Place → Option Declared
method_at world place = slice_get world place.class >>= method_of place.member

-- the place is that of a method
pub record IsMethodPlace (world : World) (place : Place) : Type 0 where
  pub class : place.class < length world
  pub member : HoldsAtNumber world place.class (λ l. place.member < length l.class.methods)

-- ---- what is found

-- the place is that of the field or method that a definition finds, or there is none
abbrev pub IsFieldFound : World → Option Place → Option DeclaredField → Type 0
IsFieldFound world place found = option_and_then (field_at world) place ≡ found

abbrev pub IsMethodFound : World → Option Place → Option Declared → Type 0
IsMethodFound world place found = option_and_then (method_at world) place ≡ found

-- what holds of the method at a place, and of a class beside it
abbrev pub HoldsAtMethod : World → Place → (Declared → Type 0) → Type 0
HoldsAtMethod world place P = (d : Declared) → method_at world place ≡ Some d → P d

abbrev pub HoldsAtCall : World → Place → ℕ → (Loaded → Declared → Type 0) → Type 0
HoldsAtCall world called number P = HoldsAtNumber world number (λ l. HoldsAtMethod world called (λ e. P l e))

-- what holds of a class whose searches go by these numbers
abbrev pub HoldsWhereSearched : World → ℕ → List ℕ → (Loaded → Type 0) → Type 0
HoldsWhereSearched world number searched P = HoldsAtNumber world number (λ l. classes_at world searched ≡ searched_from world l → P l)

-- the method that a rule finds for a class whose searches go by these numbers
abbrev pub FindsMethod : World → ℕ → List ℕ → Option Place → (Loaded → Option Declared) → Type 0
FindsMethod world number searched place rule = HoldsWhereSearched world number searched (λ l. IsMethodFound world place (rule l))

-- the first method that a class or a superclass of it declares
abbrev pub IsFirstOfClasses : World → ℕ → List ℕ → List ℕ → Option Place → Type 0
IsFirstOfClasses world from name descriptor answer =
    HoldsAtNumber world from (λ l. IsMethodFound world answer (first_found (method_in name descriptor) (l ∷ superclasses world l.class)))

-- the classes that a search meets
abbrev pub AreSearched : World → ℕ → List ℕ → Type 0
AreSearched world number searched = HoldsAtNumber world number (λ l. classes_at world searched ≡ searched_from world l)

-- the field and the method that a class or interface has or inherits
abbrev pub IsFieldLookedUp : World → ℕ → List ℕ → List ℕ → Option Place → Type 0
IsFieldLookedUp world number name descriptor place =
    HoldsAtNumber world number (λ l. IsFieldFound world place (lookup_field world l name descriptor))

abbrev pub IsMethodLookedUp : World → ℕ → List ℕ → List ℕ → Option Place → Type 0
IsMethodLookedUp world number name descriptor place =
    HoldsAtNumber world number (λ l. IsMethodFound world place (lookup_method world l name descriptor))
