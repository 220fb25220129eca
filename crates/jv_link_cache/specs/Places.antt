-- Where the values of fields stand, in words (JVMS 2.7, own): those of an object's fields one behind the other, the highest
-- superclass's first, and those of static fields one behind the other as well, by the order of the classes in the world.
use Rattle.std.specs.Prelude.{ℕ, List, map, filter, sum_by, if◌then◌else◌}
use Rattle.std.specs.List.{Contains, flat_map}
use Rattle.jv_meaning_world.specs.World.{Loaded, World}
use Rattle.jv_meaning_world.specs.LookUps.{DeclaredField, field_by}
use Rattle.jv_meaning_typing.specs.Kind.{is_static_field}
use Rattle.jv_meaning_typing.specs.Layout.{field_words, Placed, laid_at, placed_from, layout}

-- ---- static fields (4.5)

abbrev pub own_static_fields : Loaded → List DeclaredField
own_static_fields l = map (field_by l) (filter is_static_field l.class.fields)

abbrev pub static_fields : World → List DeclaredField
static_fields world = flat_map own_static_fields world

abbrev pub static_words : World → ℕ
static_words world = sum_by field_words (static_fields world)

abbrev pub static_layout : World → List Placed
static_layout world = placed_from 0 (static_fields world)

-- ---- a field's place: its first word in an object of the class that declares it, which is the same in those of the classes
-- below; of a static field its first word among those of all

abbrev pub places_beside : World → DeclaredField → List Placed
places_beside world d = if is_static_field d.field then static_layout world else layout world d.by

abbrev pub IsWordOf : World → DeclaredField → ℕ → Type 0
IsWordOf world d word = Contains (places_beside world d) (laid_at d word)
