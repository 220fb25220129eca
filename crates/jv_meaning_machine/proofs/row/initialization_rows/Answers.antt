use Rattle.std.proofs.Common.{refl}
use Rattle.jv_meaning_machine.proofs.row.initialization_rows.Goals as goal

pub returns : goal.returns
returns c = record {
  again = refl;
  constant = refl;
  erroneous = refl;
  circle = refl;
  length = refl;
  last_cell = refl;
  no_cell = refl;
}
