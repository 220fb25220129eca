-- A tableswitch where it stands in code (JVMS 6.5).
use Rattle.std.specs.Prelude.{◌≡◌, ℕ, ◌+◌, ◌*◌, ◌⊎◌, ◌||◌, ℤ, pos, ◌+ℤ◌, ◌-ℤ◌, nat_abs, int_lt, List, get_or, if◌then◌else◌}
use Rattle.std.specs.Int.{w32, cast_signed}
use Rattle.jv_code.specs.Places.{IsAt}
use Rattle.jv_code.specs.declared.insn.Insn.TheVariants.{TableSwitch}
use Rattle.jv_meaning_machine.specs.Arithmetic.{table_distance}

-- the number in the four bytes at an offset, the high byte first
abbrev pub quad_there : List ℕ → ℕ → ℕ
quad_there code at =
    get_or code at 0 * 16777216 + get_or code (at + 1) 0 * 65536 + get_or code (at + 2) 0 * 256 + get_or code (at + 3) 0

-- the same as a signed number
abbrev pub signed_there : List ℕ → ℕ → ℤ
signed_there code at = cast_signed w32 (quad_there code at)

-- A tableswitch starts at an offset.
abbrev pub IsTableSwitch : List ℕ → ℕ → Type 0
IsTableSwitch code pc =
    (padding : List ℕ) × (default : ℤ) × (low : ℤ) × (high : ℤ) × (distances : List ℕ)
    × IsAt code pc (TableSwitch padding default low high distances)

-- This is the distance that it has for a number.
abbrev pub IsTableDistance : List ℕ → ℕ → ℤ → ℤ → Type 0
IsTableDistance code pc number distance =
    (padding : List ℕ) (default low high : ℤ) (distances : List ℕ) → IsAt code pc (TableSwitch padding default low high distances)
    → distance ≡ table_distance default low high distances number

-- where a number's distance stands, or the default one, behind the padding
abbrev pub distance_place : List ℕ → ℕ → ℤ → ℕ
distance_place code numbers number =
    if int_lt number (signed_there code (numbers + 4)) || int_lt (signed_there code (numbers + 8)) number then numbers
    else numbers + 12 + 4 * nat_abs (number -ℤ signed_there code (numbers + 4))

-- How far a number is above another, and 2^32 more where it is below.
abbrev pub IsAbove : ℤ → ℤ → ℕ → Type 0
IsAbove number low n = (pos n ≡ number -ℤ low) ⊎ (pos n ≡ (number -ℤ low) +ℤ pos 4294967296)
