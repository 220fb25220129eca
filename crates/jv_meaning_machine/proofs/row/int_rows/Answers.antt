use Rattle.std.proofs.Common.{refl}
use Rattle.jv_meaning_machine.proofs.row.int_rows.Goals as goal

pub returns : goal.returns
returns c = record {
  adds = refl;
  add_wraps = refl;
  add_wraps_down = refl;
  subtracts = refl;
  subtract_wraps = refl;
  subtract_least = refl;
  multiplies = refl;
  multiply_wraps = refl;
  multiply_to_zero = refl;
  multiply_least = refl;
  divides = refl;
  divides_minus = refl;
  divides_by_minus = refl;
  divides_least = refl;
  divides_by_zero = refl;
  remainder = refl;
  remainder_minus = refl;
  remainder_by_minus = refl;
  remainder_least = refl;
  remainder_by_zero = refl;
  negates = refl;
  negates_least = refl;
  ands = refl;
  ands_minus = refl;
  ors = refl;
  ors_minus = refl;
  xors = refl;
  xors_minus = refl;
}
