use Rattle.std.proofs.Common.{refl}
use Rattle.jv_meaning_machine.proofs.row.host_rows.Goals as goal

pub returns : goal.returns
returns c = record {
  first_letter = refl;
  last_letter = refl;
  of_string = refl;
  behind = refl;
  before = refl;
  of_array = refl;
  of_null = refl;
  like = refl;
  last_cell = refl;
  no_cell = refl;
  negative = refl;
  like_strings = refl;
  like_arrays = refl;
  like_null = refl;
}
