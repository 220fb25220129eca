use Rattle.std.proofs.Common.{refl}
use Rattle.jv_meaning_machine.proofs.row.handler_rows.Goals as goal

pub returns : goal.returns
returns c = record {
  any = refl;
  first_in_table = refl;
  first_that_catches = refl;
  from_start = refl;
  before_end = refl;
  behind = refl;
  by_caller = refl;
  by_callee = refl;
  again = refl;
  again_out = refl;
  again_and_again = refl;
  last_count = refl;
  same_count = refl;
  null = refl;
  last_cells = refl;
  no_cells = refl;
  last_words = refl;
  no_words = refl;
}
