use Rattle.std.proofs.Common.{refl}
use Rattle.jv_meaning_machine.proofs.row.object_rows.Goals as goal

pub returns : goal.returns
returns c = record {
  division = refl;
  last_cell = refl;
  no_cell = refl;
  deep_recursion = refl;
  interface = refl;
}
