-- Where an object keeps its fields (JVMS 2.7, own): each has words of its own, at a place that depends on the class that
-- declares it alone.
use Rattle.std.specs.Prelude.{◌≡◌, ℕ, ◌+◌, ◌≤◌, ◌⊎◌, ⊤, not, List, [], ◌∷◌, ◌++◌, map, reverse, filter, sum_by, codes, if◌then◌else◌}
use Rattle.std.specs.List.{AllByRecursion, flat_map}
use Rattle.std.specs.Str.{bytes_eq}
use Rattle.jv_meaning_world.specs.World.{Loaded, World}
use Rattle.jv_meaning_world.specs.LookUps.{DeclaredField, field_by}
use Rattle.jv_meaning_typing.specs.Kind.{is_static_field}
use Rattle.jv_meaning_typing.specs.Selection.{upward}

-- ---- the fields of an object, and what they cost

abbrev pub own_fields : Loaded → List DeclaredField
own_fields l = map (field_by l) (filter (λ f. not (is_static_field f)) l.class.fields)

-- those of the class and its superclasses, the highest class's first
abbrev pub instance_fields : World → Loaded → List DeclaredField
instance_fields world l = flat_map own_fields (reverse (upward world l))

-- two words for a long
abbrev pub field_words : DeclaredField → ℕ
field_words d = if bytes_eq d.field.descriptor (codes "J") then 2 else 1

abbrev pub object_words : World → Loaded → ℕ
object_words world l = sum_by field_words (instance_fields world l)

-- what an object costs: a cell, and one for each of its words
abbrev pub object_cells : World → Loaded → ℕ
object_cells world l = 1 + object_words world l

-- ---- places

pub record Placed : Type 0 where
  pub field : DeclaredField
  pub place : ℕ

abbrev pub laid_at : DeclaredField → ℕ → Placed
laid_at d n = record { field = d; place = n }

-- each field behind the words of those before it
abbrev pub placed_from : ℕ → List DeclaredField → List Placed
placed_from n [] = []
placed_from n (d ∷ more) = laid_at d n ∷ placed_from (n + field_words d) more

abbrev pub layout : World → Loaded → List Placed
layout world l = placed_from 0 (instance_fields world l)

-- ---- which places are right

abbrev pub end_of : Placed → ℕ
end_of p = p.place + field_words p.field

-- two fields have no word in common
abbrev pub AreApart : Placed → Placed → Type 0
AreApart a b = (end_of a ≤ b.place) ⊎ (end_of b ≤ a.place)

abbrev pub EachTwoApart : List Placed → Type 0
EachTwoApart [] = ⊤
EachTwoApart (p ∷ more) = AllByRecursion (AreApart p) more × EachTwoApart more

-- each field of an object has a place, within the object's words, and no two have a word in common
pub record IsLayout (world : World) (l : Loaded) (places : List Placed) : Type 0 where
  pub fields : map (λ p. p.field) places ≡ instance_fields world l
  pub within : AllByRecursion (λ p. end_of p ≤ object_words world l) places
  pub apart : EachTwoApart places

-- an object of a class has the fields of the superclass where an object of that has them
abbrev pub Extends : List Placed → List Placed → Type 0
Extends places above_places = (own : List Placed) × (places ≡ above_places ++ own)
