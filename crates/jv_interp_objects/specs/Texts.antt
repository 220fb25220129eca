-- The texts that String constants of a guest's classes name (JVMS 4.4.3): no two are the same, and the number of one is its place among
-- them.
use Rattle.std.specs.Prelude.{◌≡◌, ℕ, ◌<◌, List, Some, length, slice_get, IsSomeAnd}
use Rattle.jv_pool.specs.Constants.{Entry, string_at}
use Rattle.jv_meaning_world.specs.World.{Loaded, World}
use Rattle.jv_interp_objects.specs.declared.texts.ClassTexts.{ClassTexts}
use Rattle.jv_interp_objects.specs.declared.texts.Texts.{Texts}
use Rattle.jv_interp_objects.specs.Units.{HasUnits}

abbrev pub HasText : List (List ℕ) → List ℕ → ℕ → Type 0
HasText texts text number = slice_get texts number ≡ Some text

abbrev pub AreDifferent : List (List ℕ) → Type 0
AreDifferent texts = (number other : ℕ) (text : List ℕ) → HasText texts text number → HasText texts text other → other ≡ number

-- each has fewer than 2^31 bytes (own): a CONSTANT_Utf8 has no more than 65,535 (4.4.7)
abbrev pub AreShort : List (List ℕ) → Type 0
AreShort texts = (number : ℕ) (text : List ℕ) → HasText texts text number → length text < 2147483648

-- each has so many units
pub record AreCounts (texts : List (List ℕ)) (counts : List ℕ) : Type 0 where
  pub count_of : length counts ≡ length texts
  pub each : (number count : ℕ) (text : List ℕ) → slice_get counts number ≡ Some count → HasText texts text number → HasUnits text count

-- each String constant of a pool has its text's number
abbrev pub AreNumbers : List (List ℕ) → List Entry → List ℕ → Type 0
AreNumbers texts pool numbers =
    (index : ℕ) (text : List ℕ) → string_at pool index ≡ Some text → IsSomeAnd (slice_get numbers index) (HasText texts text)

abbrev pub AreTextsOf : List (List ℕ) → Loaded → ClassTexts → Type 0
AreTextsOf texts l row = AreNumbers texts l.class.constant_pool row.numbers.items

-- and so each class's
pub record AreTexts (world : World) (texts : Texts) : Type 0 where
  pub differ : AreDifferent texts.names
  pub short : AreShort texts.names
  pub counts : AreCounts texts.names texts.counts.items
  pub classes : (class : ℕ) (l : Loaded) → slice_get world class ≡ Some l
      → IsSomeAnd (slice_get texts.classes.items class) (AreTextsOf texts.names l)
