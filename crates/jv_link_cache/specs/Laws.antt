-- Laws of where fields stand, as whoever keeps objects needs them.
use Rattle.std.specs.Prelude.{ℕ, IsFalse}
use Rattle.std.specs.List.{Contains}
use Rattle.jv_meaning_world.specs.World.{Loaded, World}
use Rattle.jv_meaning_world.specs.Above.{above, is_circular}
use Rattle.jv_meaning_world.specs.LookUps.{DeclaredField}
use Rattle.jv_meaning_typing.specs.Kind.{is_static_field}
use Rattle.jv_meaning_typing.specs.Layout.{laid_at, layout}
use Rattle.jv_meaning_typing.specs.Selection.{upward}
use Rattle.jv_link_cache.specs.Places.{IsWordOf}

abbrev pub HasNoCircleAbove : World → Loaded → Type 0
HasNoCircleAbove world l = (c : Loaded) → Contains (above world l.class) c → IsFalse (is_circular world c.class)

-- A law: an object of a class at or below the one that declares an instance field keeps it at the same word, unless a circle is
-- above its class.
abbrev pub WordsAreInherited : Type 0
WordsAreInherited =
    (world : World) (l : Loaded) (d : DeclaredField) (word : ℕ) → HasNoCircleAbove world l → Contains (upward world l) d.by
    → IsFalse (is_static_field d.field) → IsWordOf world d word → Contains (layout world l) (laid_at d word)
