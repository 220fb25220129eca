use Rattle.std.proofs.Common.{refl}
use Rattle.jv_meaning_machine.proofs.row.feed_rows.Goals as goal

pub returns : goal.returns
returns c = record {
  nothing = refl;
  between = refl;
  at_start = refl;
  just_before = refl;
  just_behind = refl;
  behind_input = refl;
  in_order = refl;
  of_two_steps = refl;
  own_step = refl;
  later = refl;
  behind_end = refl;
}
