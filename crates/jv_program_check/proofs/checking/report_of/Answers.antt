use Rattle.std.proofs.Common.{◌≡◌, List, All, map, subst, sym, ap, ◌∙◌}
use Rattle.serde_json.specs.Data.{Data}
use Rattle.serde_json.specs.View.{view}
use Rattle.jv_limits.specs.Bytes.{bytes_of}
use Rattle.jv_json.specs.Files.{file_values}
use Rattle.jv_json.proofs.Plain.{IsPlain, files_plain}
use Rattle.jv_program_check.proofs.checking.report_of.Goals as goal

pub json_lines-requires : goal.json_lines-requires
json_lines-requires c =
    let names = map bytes_of c.args.names.now in
    let values : map view c.as_slice.result.now ≡ file_values names c.args.verdicts.now =
    ap (map view) c.as_slice.ensures.value ∙ c.in_ok-values.ensures {u = tt} in
    subst (λ (ds : List Data). All IsPlain ds) (sym values) (files_plain names c.args.verdicts.now)
