use Rattle.std.proofs.Common.{◌≡◌, List, All, map, subst, sym, ap, ◌∙◌}
use Rattle.serde_json.specs.Data.{Data}
use Rattle.serde_json.specs.View.{view}
use Rattle.jv_json.proofs.Plain.{IsPlain}
use Rattle.jv_program_run.specs.Inside.Play.{told_of}
use Rattle.jv_program_run.specs.Json.{told_value}
use Rattle.jv_program_run.proofs.Plain.{all_plain}
use Rattle.jv_program_run.proofs.json.run_report.Goals as goal

pub json_lines-requires : goal.json_lines-requires
json_lines-requires c =
    let told = map told_of c.args.reports.now in
    let values : map view c.as_slice.result.now ≡ map told_value told = ap (map view) c.as_slice.ensures.value ∙ c.in_ok-values.ensures {u = tt} in
    subst (λ (ds : List Data). All IsPlain ds) (sym values) (all_plain told)
