-- The worked rows, computed.
use Rattle.std.proofs.Common.{refl}
use Rattle.jv_meaning_library.specs.Rows.Closed.{WorkedClosedRows}

pub worked_closed_rows : WorkedClosedRows
worked_closed_rows = record {
  none = refl;
  one = refl;
  lent = refl;
  class = refl;
  array = refl;
  own_array = refl;
  numbers = refl;
  parameter = refl;
  result = refl;
  type = refl;
  known_types = refl;
  own_field = refl;
  own_method = refl;
  super = refl;
  interface = refl;
  text = refl;
  refused_alone = refl;
  loads_beside = refl;
}
