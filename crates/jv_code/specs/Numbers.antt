-- Signed numbers in code: the high byte first, in two's complement (JVMS 6.5).
use Rattle.std.specs.Prelude.{ℤ}
use Rattle.std.specs.Int.{w8, w16, w32}
use Rattle.jv_format.specs.Format.{Format, byte, half, quad}
use Rattle.jv_format.specs.Readers.{signed}

abbrev pub signed8 : Format ℤ
signed8 = signed w8 7 byte

abbrev pub signed16 : Format ℤ
signed16 = signed w16 15 half

abbrev pub signed32 : Format ℤ
signed32 = signed w32 31 quad
