use Rattle.std.proofs.Common.{refl}
use Rattle.jv_meaning_machine.proofs.row.array_rows.Goals as goal

pub returns : goal.returns
returns c = record {
  made = refl;
  too_many = refl;
  negative = refl;
  store = refl;
}
