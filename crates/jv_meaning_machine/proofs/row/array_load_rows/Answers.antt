use Rattle.std.proofs.Common.{refl}
use Rattle.jv_meaning_machine.proofs.row.array_load_rows.Goals as goal

pub returns : goal.returns
returns c = record {
  ints = refl;
  longs = refl;
  bytes = refl;
  booleans = refl;
  chars = refl;
  shorts = refl;
  references = refl;
  null = refl;
  reference_of_null = refl;
  above = refl;
  below = refl;
  reference_above = refl;
  reference_below = refl;
  ints_as_bytes = refl;
  ints_as_references = refl;
  references_as_ints = refl;
  no_object = refl;
  length = refl;
  length_of_null = refl;
}
