use Rattle.std.proofs.Common.{refl}
use Rattle.jv_meaning_machine.proofs.row.constant_rows.Goals as goal

pub returns : goal.returns
returns c = record {
  int_pushed = refl;
  wide_int_pushed = refl;
  long_pushed = refl;
  literal_pushed = refl;
  literal_made = refl;
  long_as_word = refl;
  int_as_long = refl;
  unusable = refl;
  none = refl;
}
