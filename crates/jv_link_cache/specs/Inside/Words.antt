-- The words of fields, one class behind the other (JVMS 2.7, own).
use Rattle.std.specs.Prelude.{◌≡◌, ℕ, ◌+◌, List, [], ◌∷◌, map, sum_by, codes, if◌then◌else◌}
use Rattle.std.specs.Str.{bytes_eq}
use Rattle.jv_class.specs.Class.{Field}
use Rattle.jv_meaning_world.specs.World.{Loaded, World}
use Rattle.jv_meaning_world.specs.Above.{superclasses}
use Rattle.jv_meaning_typing.specs.Kind.{is_static_field}
use Rattle.jv_link_cache.specs.declared.words.Ends.{Ends}
use Rattle.jv_link_cache.specs.declared.words.ClassWords.{ClassWords}

abbrev pub width_of : Field → ℕ
width_of f = if bytes_eq f.descriptor (codes "J") then 2 else 1

-- ---- fields one behind the other: instance fields in an object, and static ones among those of all classes

abbrev pub word_in : Field → Ends → ℕ
word_in f ends = if is_static_field f then ends.statics else ends.object

abbrev pub behind : Field → Ends → Ends
behind f ends =
    if is_static_field f then record { object = ends.object; statics = ends.statics + width_of f }
    else record { object = ends.object + width_of f; statics = ends.statics }

abbrev pub words_from : Ends → List Field → List ℕ
words_from ends [] = []
words_from ends (f ∷ more) = word_in f ends ∷ words_from (behind f ends) more

abbrev pub ends_from : Ends → List Field → Ends
ends_from ends [] = ends
ends_from ends (f ∷ more) = ends_from (behind f ends) more

-- ---- classes

abbrev pub no_words : Ends
no_words = record { object = 0; statics = 0 }

abbrev pub own_words : Loaded → ℕ
own_words l = (ends_from no_words l.class.fields).object

abbrev pub inherited_words : World → Loaded → ℕ
inherited_words world l = sum_by own_words (superclasses world l.class)

-- behind the superclasses' words, and behind so many of static fields
abbrev pub first_ends : World → ℕ → Loaded → Ends
first_ends world statics l = record { object = inherited_words world l; statics = statics }

abbrev pub seen_words : ClassWords → ℕ × List ℕ
seen_words words = (words.object, words.fields.items)

-- how many an object of a class has, and the first of each field
abbrev pub words_of : Ends → Loaded → ℕ × List ℕ
words_of first l = ((ends_from first l.class.fields).object, words_from first l.class.fields)

-- those of each class
abbrev pub all_words : World → ℕ → List Loaded → List (ℕ × List ℕ)
all_words world statics [] = []
all_words world statics (l ∷ more) =
    words_of (first_ends world statics l) l
    ∷ all_words world (ends_from (first_ends world statics l) l.class.fields).statics more

-- and how many of static fields there are behind them
abbrev pub static_end : World → ℕ → List Loaded → ℕ
static_end world statics [] = statics
static_end world statics (l ∷ more) = static_end world (ends_from (first_ends world statics l) l.class.fields).statics more

pub record AreWords (world : World) (words : List ClassWords) : Type 0 where
  pub all_of : map seen_words words ≡ all_words world 0 world
