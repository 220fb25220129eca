use Rattle.std.proofs.Common.{◌≡◌, map, take}
use Rattle.serde_json.specs.View.{view}
use Rattle.jv_program_run.specs.Inside.Play.{told_of}
use Rattle.jv_program_run.specs.Json.{told_value}
use Rattle.jv_program_run.proofs.json.told_values.Given as goal

abbrev pub invariant-loop-report : goal.invariant-loop-report
invariant-loop-report l = map view l.values.items ≡ map told_value (map told_of (take l.report-index l.reports))
