use Rattle.std.proofs.Common.{refl}
use Rattle.jv_meaning_machine.proofs.row.field_rows.Goals as goal

pub returns : goal.returns
returns c = record {
  of_A = refl;
  of_B = refl;
  put_A = refl;
  put_B = refl;
  put_long = refl;
  put_null = refl;
  put_byte = refl;
  put_boolean = refl;
  put_boolean_minus = refl;
  put_char = refl;
  put_short = refl;
  int_into_long = refl;
  without_field = refl;
  static_of_A = refl;
  static_of_B = refl;
  put_static = refl;
  put_static_byte = refl;
  put_goes_on = refl;
  put_static_goes_on = refl;
  get_no_static = refl;
  put_no_static = refl;
  not_constructed = refl;
}
