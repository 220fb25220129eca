use Rattle.std.proofs.Common.{refl}
use Rattle.jv_meaning_machine.proofs.row.long_rows.Goals as goal

pub returns : goal.returns
returns c = record {
  adds = refl;
  add_wraps = refl;
  add_beyond_ints = refl;
  subtracts = refl;
  subtract_wraps = refl;
  multiplies = refl;
  multiply_wraps = refl;
  multiply_least = refl;
  divides_minus = refl;
  divides_least = refl;
  divides_by_zero = refl;
  remainder_minus = refl;
  remainder_least = refl;
  remainder_by_zero = refl;
  negates = refl;
  negates_least = refl;
  ands = refl;
  ors = refl;
  xors = refl;
  compares_less = refl;
  compares_equal = refl;
  compares_greater = refl;
}
