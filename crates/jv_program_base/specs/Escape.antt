-- How bytes are printed.
use Rattle.std.specs.Prelude.{ℕ, ◌+◌, ◌/◌, ◌%◌, Bool, not, ◌&&◌, List, [], ◌∷◌, nat_lt, nat_le, ◌==◌, if◌then◌else◌}
use Rattle.std.specs.List.{flat_map}

-- a byte from 0x20 to 0x7E that is no backslash
abbrev pub is_plain : ℕ → Bool
is_plain byte = nat_le 32 byte && nat_le byte 126 && not (byte == 92)

-- a digit of base sixteen, with lower-case letters
abbrev pub hex_digit : ℕ → ℕ
hex_digit digit = if nat_lt digit 10 then 48 + digit else 87 + digit

-- a plain byte is itself; another is a backslash, an x and its two digits
abbrev pub escaped_byte : ℕ → List ℕ
escaped_byte byte =
    if is_plain byte then byte ∷ [] else 92 ∷ 120 ∷ hex_digit (byte / 16) ∷ hex_digit (byte % 16) ∷ []

abbrev pub escaped_text : List ℕ → List ℕ
escaped_text bytes = flat_map escaped_byte bytes
