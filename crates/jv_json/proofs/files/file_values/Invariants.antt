-- What is found, and what is left, are all.
use Rattle.std.proofs.Common.{◌≡◌, ◌++◌, drop, map}
use Rattle.serde_json.specs.View.{view}
use Rattle.jv_limits.specs.Bytes.{bytes_of}
use Rattle.jv_json.specs.Files.{file_values}
use Rattle.jv_json.proofs.files.file_values.Given as goal

abbrev pub invariant-loop-place : goal.invariant-loop-place
invariant-loop-place l =
    map view l.values.items ++ file_values (drop l.place (map bytes_of l.names)) (drop l.place l.verdicts) ≡ file_values (map bytes_of l.names) l.verdicts
