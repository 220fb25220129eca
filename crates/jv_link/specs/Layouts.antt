-- Layouts as the code has them (JVMS 2.7, own).
use Rattle.std.specs.Prelude.{◌≡◌, ℕ, List, [], ◌∷◌, map, sum_by, Option, Some, if◌then◌else◌, ◌++◌}
use Rattle.std.specs.Option.{option_map}
use Rattle.jv_meaning_world.specs.World.{World}
use Rattle.jv_meaning_world.specs.LookUps.{DeclaredField}
use Rattle.jv_lookups.specs.declared.place.Place.{Place}
use Rattle.jv_lookups.specs.Places.{field_at}
use Rattle.jv_meaning_typing.specs.Kind.{is_static_field}
use Rattle.jv_meaning_typing.specs.Layout.{Placed, laid_at, placed_from, field_words, own_fields, instance_fields}
use Rattle.jv_link.specs.declared.layout.PlacedField.{PlacedField}
use Rattle.jv_link.specs.declared.layout.Layout.{Layout}
use Rattle.jv_meaning_world.specs.Numbers.{HoldsAtNumber}

abbrev pub placed_field : Place → ℕ → PlacedField
placed_field field word = record { field = field; word = word }

-- the field at its place, with its first word
abbrev pub placed_at : World → PlacedField → Option Placed
placed_at world p = option_map (λ d. laid_at d p.word) (field_at world p.field)

abbrev pub known : Placed → Option Placed
known p = Some p

-- The layout is that of these fields: each behind the words of those before it, and as many words as they have.
pub record IsLaid (world : World) (layout : Layout) (fields : List DeclaredField) : Type 0 where
  pub fields_placed : map (placed_at world) layout.fields.items ≡ map known (placed_from 0 fields)
  pub words : layout.words ≡ sum_by field_words fields

-- a field, where it is an instance field
abbrev pub own_field : DeclaredField → List DeclaredField
own_field d = if is_static_field d.field then [] else d ∷ []

-- behind the fields that it has, a layout gets a field at a place, or those of a class
abbrev pub LaysField : World → Place → Layout → Layout → Type 0
LaysField world place old new =
    (d : DeclaredField) (ds : List DeclaredField) → field_at world place ≡ Some d → IsLaid world old ds
    → IsLaid world new (ds ++ own_field d)

abbrev pub LaysFields : World → ℕ → Layout → Layout → Type 0
LaysFields world class old new =
    HoldsAtNumber world class (λ l. (ds : List DeclaredField) → IsLaid world old ds → IsLaid world new (ds ++ own_fields l))

-- it is that of a class's objects
abbrev pub IsLayoutOf : World → ℕ → Layout → Type 0
IsLayoutOf world class layout = HoldsAtNumber world class (λ l. IsLaid world layout (instance_fields world l))
