use Rattle.std.proofs.Common.{refl}
use Rattle.jv_meaning_machine.proofs.row.conversion_rows.Goals as goal

pub returns : goal.returns
returns c = record {
  to_long = refl;
  to_int = refl;
  to_int_minus = refl;
  to_int_below_ints = refl;
  to_int_of_least = refl;
  to_byte = refl;
  to_byte_minus = refl;
  to_byte_low = refl;
  to_byte_of_minus = refl;
  to_char = refl;
  to_char_of_minus = refl;
  to_short = refl;
  to_short_minus = refl;
  to_short_of_minus = refl;
  zero = refl;
  one = refl;
  int_and_long = refl;
  long_places = refl;
  too_few = refl;
}
