-- Where a jump goes: the instruction's own offset and the distance (JVMS 6.5).
use Rattle.std.specs.Prelude.{ℕ, ℤ, pos, negsuc, ◌+ℤ◌, Option, Some, None, nat_lt, if◌then◌else◌}

-- an offset of 32 bits
abbrev pub as_offset : ℤ → Option ℕ
as_offset (pos n) = if nat_lt n 4294967296 then Some n else None
as_offset (negsuc n) = None

abbrev pub target_of : ℕ → ℤ → Option ℕ
target_of pc distance = as_offset (pos pc +ℤ distance)
