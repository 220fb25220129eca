-- JSON Lines: values, each of them a line (own).
use Rattle.std.specs.Prelude.{ℕ, List, [], ◌∷◌, ◌++◌}
use Rattle.std.specs.List.{flat_map}
use Rattle.serde_json.specs.Data.{Data}
use Rattle.serde_json.specs.Written.{compact_text}

-- the value's text without spaces, and LF
abbrev pub json_line : Data → List ℕ
json_line value = compact_text value ++ 10 ∷ []

abbrev pub json_lines : List Data → List ℕ
json_lines values = flat_map json_line values
