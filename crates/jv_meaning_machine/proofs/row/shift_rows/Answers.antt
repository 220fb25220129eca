use Rattle.std.proofs.Common.{refl}
use Rattle.jv_meaning_machine.proofs.row.shift_rows.Goals as goal

pub returns : goal.returns
returns c = record {
  left = refl;
  left_loses = refl;
  left_by_width = refl;
  left_by_minus = refl;
  right = refl;
  right_down = refl;
  right_to_sign = refl;
  right_beyond = refl;
  unsigned = refl;
  unsigned_by_width = refl;
  unsigned_by_minus = refl;
  left_long = refl;
  left_long_by_width = refl;
  left_long_by_32 = refl;
  left_long_by_minus = refl;
  right_long = refl;
  right_long_beyond = refl;
  unsigned_long = refl;
  unsigned_long_by_width = refl;
}
