-- Modified UTF-8 (JVMS 4.4.7): texts are lists of 16 bit units, each spelled in one, two or three bytes.
-- (own) A unit has its shortest form alone, and a surrogate need not stand in a pair.
use Rattle.std.specs.Prelude.{◌≡◌, ℕ, ◌+◌, ◌/◌, ◌%◌, ◌^◌, Bool, List, [], ◌∷◌, nat_lt, ◌&&◌, if◌then◌else◌, IsTrue}
use Rattle.std.specs.List.{list_all, flat_map}

-- The bytes of a unit: one for 1 to 127, two for 0 and 128 to 2047, three above.
abbrev pub unit_bytes : ℕ → List ℕ
unit_bytes unit =
    if nat_lt 0 unit && nat_lt unit 128 then unit ∷ []
    else if nat_lt unit 2048 then (192 + unit / 64) ∷ (128 + unit % 64) ∷ []
    else (224 + unit / 4096) ∷ (128 + unit / 64 % 64) ∷ (128 + unit % 64) ∷ []

-- The bytes of a text: those of its units, one after the other.
abbrev pub text_bytes : List ℕ → List ℕ
text_bytes units = flat_map unit_bytes units

-- A unit has 16 bits.
abbrev pub is_unit : ℕ → Bool
is_unit unit = nat_lt unit (2 ^ 16)

-- The bytes are those of the text.
pub record Spells (units bytes : List ℕ) : Type 0 where
  pub fit : IsTrue (list_all is_unit units)
  pub spelled : bytes ≡ text_bytes units

-- The bytes are those of some text.
abbrev pub IsText : List ℕ → Type 0
IsText bytes = (units : List ℕ) × Spells units bytes

-- A law: bytes are those of one text at most.
abbrev pub OneText : Type 0
OneText = (bytes one other : List ℕ) → Spells one bytes → Spells other bytes → one ≡ other
