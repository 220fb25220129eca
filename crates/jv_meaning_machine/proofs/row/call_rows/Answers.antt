use Rattle.std.proofs.Common.{refl}
use Rattle.jv_meaning_machine.proofs.row.call_rows.Goals as goal

pub returns : goal.returns
returns c = record {
  passed = refl;
  other_result = refl;
  too_many_arguments = refl;
  nothing_returned = refl;
}
