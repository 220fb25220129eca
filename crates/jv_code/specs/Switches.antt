-- The padding, distances and keys of a switch (JVMS 6.5, tableswitch and lookupswitch).
use Rattle.std.specs.Prelude.{ℕ, ◌+◌, ◌-◌, ◌*◌, ◌/◌, ◌%◌, ℤ, pos, negsuc, Bool, true, false, ◌&&◌, ◌≡◌, List, [], ◌∷◌, length, Option, nat_lt, int_lt, ◌==◌, IsTrue, find, slice_get}
use Rattle.std.specs.Int.{w32, cast_signed}
use Rattle.std.specs.Ordering.{int_eq}
use Rattle.std.specs.Option.{option_map}
use Rattle.std.specs.List.{flat_map, list_all}
use Rattle.jv_format.specs.Format.{Format, quad}
use Rattle.jv_format.specs.Readers.{both}
use Rattle.jv_code.specs.Numbers.{signed32}

-- the bytes between the opcode at an offset and the next multiple of four, counted from the start of the code
abbrev pub padding_fits : ℕ → List ℕ → Bool
padding_fits at padding = length padding == 3 - at % 4

-- ---- distances of a tableswitch

-- the signed number of four bytes
abbrev pub number_of : ℕ → ℕ → ℕ → ℕ → ℤ
number_of a b c d = cast_signed w32 (a * 16777216 + b * 65536 + c * 256 + d)

-- the distances that bytes hold, in their order
abbrev pub distances_in : List ℕ → List ℤ
distances_in (a ∷ b ∷ c ∷ d ∷ rest) = number_of a b c d ∷ distances_in rest
distances_in _ = []

-- four bytes for each number from the lowest to the highest, where the highest less the lowest is the number given
abbrev pub distances_fit : ℤ → List ℕ → Bool
distances_fit (pos n) distances = length distances == 4 * (n + 1)
distances_fit (negsuc n) distances = false

-- ---- pairs of a lookupswitch

-- the pairs of a key and its distance that bytes hold, in their order
abbrev pub pairs_in : List ℕ → List (ℤ × ℤ)
pairs_in (a ∷ b ∷ c ∷ d ∷ e ∷ f ∷ g ∷ h ∷ rest) = (number_of a b c d, number_of e f g h) ∷ pairs_in rest
pairs_in _ = []

-- a key and its distance, four bytes each
abbrev pub pair : Format (ℤ × ℤ)
pair = both signed32 signed32

abbrev pub pair_distance : ℤ × ℤ → ℤ
pair_distance p = p.1

abbrev pub has_key : ℤ → ℤ × ℤ → Bool
has_key key p = int_eq p.0 key

-- the distance of a key among pairs
abbrev pub distance_for : ℤ → List (ℤ × ℤ) → Option ℤ
distance_for key pairs = option_map pair_distance (find (has_key key) pairs)

-- each key is above the one before, the first above a number
abbrev pub rise_above : ℤ → List (ℤ × ℤ) → Bool
rise_above key [] = true
rise_above key (p ∷ pairs) = int_lt key p.0 && rise_above p.0 pairs

abbrev pub keys_rise : List (ℤ × ℤ) → Bool
keys_rise [] = true
keys_rise (p ∷ pairs) = rise_above p.0 pairs

-- fewer than 2^31 pairs, and rising keys
abbrev pub pairs_keep_rules : ℕ → List ℕ → Bool
pairs_keep_rules n pairs = nat_lt n 2147483648 && keys_rise (pairs_in pairs)

-- eight bytes a pair
abbrev pub pairs_fit : List ℕ → Bool
pairs_fit pairs = quad.fits (length pairs / 8) && (length pairs == 8 * (length pairs / 8) && pairs_keep_rules (length pairs / 8) pairs)

-- ---- laws

-- Distances stand in their own bytes.
abbrev pub DistancesStand : Type 0
DistancesStand =
    (distances : List ℤ) → IsTrue (list_all signed32.fits distances) → distances_in (flat_map signed32.spelling distances) ≡ distances

-- Pairs stand in their own bytes.
abbrev pub PairsStand : Type 0
PairsStand = (pairs : List (ℤ × ℤ)) → IsTrue (list_all pair.fits pairs) → pairs_in (flat_map pair.spelling pairs) ≡ pairs

-- the distance of the pair at a place
abbrev pub distance_of_place : List ℕ → ℕ → Option ℤ
distance_of_place pairs place = option_map pair_distance (slice_get (pairs_in pairs) place)
