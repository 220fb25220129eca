-- The rows that a table keeps.
use Rattle.std.specs.Prelude.{Bool, List, map}
use Rattle.std.specs.Global.{Vec}
use Rattle.jv_classes.specs.Ways.{Rows}

abbrev pub row_items : Vec Bool → List Bool
row_items row = row.items

abbrev pub rows_of : List (Vec Bool) → Rows
rows_of rows = map row_items rows
