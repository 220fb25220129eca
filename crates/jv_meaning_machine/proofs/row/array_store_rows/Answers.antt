use Rattle.std.proofs.Common.{refl}
use Rattle.jv_meaning_machine.proofs.row.array_store_rows.Goals as goal

pub returns : goal.returns
returns c = record {
  ints = refl;
  longs = refl;
  bytes = refl;
  booleans = refl;
  even_booleans = refl;
  chars = refl;
  shorts = refl;
  null_reference = refl;
  number_goes_on = refl;
  null_goes_on = refl;
  null_over_reference = refl;
  null = refl;
  reference_into_null = refl;
  above = refl;
  below = refl;
  index_first = refl;
  array_as_string = refl;
  itself = refl;
  into_objects = refl;
  long_into_ints = refl;
  int_into_longs = refl;
}
