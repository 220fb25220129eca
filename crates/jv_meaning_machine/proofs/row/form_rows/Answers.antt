use Rattle.std.proofs.Common.{refl}
use Rattle.jv_meaning_machine.proofs.row.form_rows.Goals as goal

pub returns : goal.returns
returns c = record {
  pop = refl;
  pop2 = refl;
  pop_null = refl;
  pop2_nulls = refl;
  pop_of_one = refl;
  pop2_of_two = refl;
  pop2_long = refl;
  dup = refl;
  dup_x1 = refl;
  dup_x2 = refl;
  dup_x2_long = refl;
  dup2 = refl;
  dup2_long = refl;
  dup2_x1 = refl;
  dup2_x1_long = refl;
  dup2_x2 = refl;
  dup2_x2_long = refl;
  dup2_x2_under_long = refl;
  dup2_x2_longs = refl;
  swap = refl;
  pop_cuts = refl;
  pop2_cuts = refl;
  dup_cuts = refl;
  dup_x1_cuts = refl;
  dup_x2_cuts = refl;
  dup2_cuts = refl;
  dup2_x1_cuts = refl;
  dup2_x2_cuts = refl;
  swap_cuts = refl;
  swap_of_one = refl;
  dup2_of_one = refl;
}
