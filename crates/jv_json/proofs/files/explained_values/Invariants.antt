-- What is found, and what is left, are all.
use Rattle.std.proofs.Common.{◌≡◌, ◌++◌, drop, map}
use Rattle.std.specs.Prelude.{string_bytes}
use Rattle.serde_json.specs.View.{view}
use Rattle.jv_limits.specs.Bytes.{bytes_of}
use Rattle.jv_json.specs.Files.{explained_values}
use Rattle.jv_json.proofs.files.explained_values.Given as goal

abbrev pub invariant-loop-place : goal.invariant-loop-place
invariant-loop-place l =
    map view l.values.items ++ explained_values (drop l.place (map bytes_of l.names)) (drop l.place l.verdicts) (drop l.place l.lines)
    (drop l.place (map string_bytes l.said))
    ≡ explained_values (map bytes_of l.names) l.verdicts l.lines (map string_bytes l.said)
