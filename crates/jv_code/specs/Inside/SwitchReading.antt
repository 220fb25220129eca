-- How the operands of a switch are read from the front of bytes.
use Rattle.std.specs.Prelude.{ℕ, ◌+◌, ◌-◌, ◌*◌, ◌/◌, ◌%◌, ℤ, pos, negsuc, ◌-ℤ◌, List, length, Option, None}
use Rattle.jv_format.specs.Format.{Format, quad, front}
use Rattle.jv_format.specs.Readers.{both, paired, after, such_that, bytes_of}
use Rattle.jv_code.specs.Numbers.{signed32}
use Rattle.jv_code.specs.Switches.{distances_fit, pairs_keep_rules}

abbrev pub padding : ℕ → Format (List ℕ)
padding at = bytes_of (3 - at % 4)

-- the bytes of the distances of a tableswitch, where the highest number less the lowest is the number given
abbrev pub distance_bytes_read : ℤ → List ℕ → Option (List ℕ × List ℕ)
distance_bytes_read (pos n) bytes = front (4 * (n + 1), bytes)
distance_bytes_read (negsuc n) bytes = None

abbrev pub distance_bytes : ℤ → Format (List ℕ)
distance_bytes z = record { spelling = λ t. t; fits = distances_fit z; read = distance_bytes_read z }

-- default, lowest and highest
abbrev pub bounds : Format (ℤ × (ℤ × ℤ))
bounds = both signed32 (both signed32 signed32)

abbrev pub distance_bytes_between : ℤ × (ℤ × ℤ) → Format (List ℕ)
distance_bytes_between b = distance_bytes (b.1.1 -ℤ b.1.0)

abbrev pub table_switch : ℕ → Format (List ℕ × ((ℤ × (ℤ × ℤ)) × List ℕ))
table_switch at = both (padding at) (paired bounds distance_bytes_between)

abbrev pub pair_count : List ℕ → ℕ
pair_count pairs = length pairs / 8

abbrev pub pairs_of : ℕ → Format (List ℕ)
pairs_of n = such_that (pairs_keep_rules n) (bytes_of (8 * n))

abbrev pub pairs : Format (List ℕ)
pairs = after quad pair_count pairs_of

abbrev pub lookup_switch : ℕ → Format (List ℕ × (ℤ × List ℕ))
lookup_switch at = both (padding at) (both signed32 pairs)

-- the same of pairs of which it is known that they fit
abbrev pub known_pairs_of : ℕ → Format (List ℕ)
known_pairs_of n = bytes_of (8 * n)

abbrev pub known_pairs : Format (List ℕ)
known_pairs = after quad pair_count known_pairs_of

abbrev pub known_lookup_switch : ℕ → Format (List ℕ × (ℤ × List ℕ))
known_lookup_switch at = both (padding at) (both signed32 known_pairs)
