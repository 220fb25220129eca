use Rattle.std.proofs.Common.{refl}
use Rattle.jv_meaning_machine.proofs.row.new_array_rows.Goals as goal

pub returns : goal.returns
returns c = record {
  ints = refl;
  longs = refl;
  booleans = refl;
  chars = refl;
  bytes = refl;
  shorts = refl;
  strings = refl;
  arrays = refl;
  pushed = refl;
  last_cell = refl;
  no_cell = refl;
  last_long = refl;
  no_long = refl;
  no_reference = refl;
  negative = refl;
  negative_of_references = refl;
  no_class = refl;
  two_by_one = refl;
  three = refl;
  two_of_three = refl;
  none_behind_zero = refl;
  all_cells = refl;
  too_many = refl;
  greatest_counts = refl;
  negative_behind_zero = refl;
  negative_before_cells = refl;
  of_class = refl;
  too_few_dimensions = refl;
  too_few_of_no_class = refl;
  of_no_class = refl;
}
