-- Rows of marks as a table keeps them.
use Rattle.std.specs.Prelude.{◌≡◌, ◌<◌, ℕ, List, length, map}
use Rattle.std.specs.Global.{Vec}
use Rattle.std.specs.List.{All}
use Rattle.jv_meaning_world.specs.World.{World}
use Rattle.jv_classes.specs.Marks.{MarkedKeys, TellsFields, TellsMethods}

abbrev pub cells_in : Vec ℕ → List ℕ
cells_in row = row.items

abbrev pub cells_of : List (Vec ℕ) → List (List ℕ)
cells_of rows = map cells_in rows

-- there is a row, and each has so many cells
pub record AreWide (width : ℕ) (rows : List (List ℕ)) : Type 0 where
  pub some_row : 0 < length rows
  pub wide : All (λ row. length row ≡ width) rows

-- the methods and the fields of a world's classes are marked, by hashes under a seed
pub record AreMarked (seed : ℕ) (world : World) (methods fields : MarkedKeys) : Type 0 where
  pub methods_told : TellsMethods seed world methods
  pub fields_told : TellsFields seed world fields
