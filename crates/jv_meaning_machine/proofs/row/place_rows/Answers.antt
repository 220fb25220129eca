use Rattle.std.proofs.Common.{refl}
use Rattle.jv_meaning_machine.proofs.row.place_rows.Goals as goal

pub returns : goal.returns
returns c = record {
  none = refl;
  division = refl;
  callee = refl;
  again = refl;
  initializer = refl;
  superclass = refl;
  error = refl;
  erroneous = refl;
  main_class = refl;
  no_words = refl;
}
