use Rattle.std.proofs.Common.{refl}
use Rattle.jv_meaning_machine.proofs.row.switch_rows.Goals as goal

pub returns : goal.returns
returns c = record {
  below = refl;
  lowest = refl;
  within = refl;
  highest = refl;
  above = refl;
  least = refl;
  greatest = refl;
  not_greatest = refl;
  first_key = refl;
  last_key = refl;
  no_key = refl;
  none = refl;
}
