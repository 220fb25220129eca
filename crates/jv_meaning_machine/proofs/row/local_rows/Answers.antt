use Rattle.std.proofs.Common.{refl}
use Rattle.jv_meaning_machine.proofs.row.local_rows.Goals as goal

pub returns : goal.returns
returns c = record {
  int_loaded = refl;
  long_loaded = refl;
  null_loaded = refl;
  other_kind = refl;
  long_as_int = refl;
  half = refl;
  half_as_long = refl;
  nothing = refl;
  outside = refl;
  int_stored = refl;
  long_stored = refl;
  over_first = refl;
  over_second = refl;
  over_two = refl;
  over_same = refl;
  int_as_reference = refl;
  null_as_int = refl;
  no_room = refl;
  wide_load = refl;
  wide_store = refl;
  wide_increment = refl;
  increment_wraps = refl;
  increment_down = refl;
}
