use Rattle.std.proofs.Common.{◌≡◌, List, All, map, subst, sym, ap, ◌∙◌}
use Rattle.std.specs.Prelude.{string_bytes}
use Rattle.serde_json.specs.Data.{Data}
use Rattle.serde_json.specs.View.{view}
use Rattle.jv_limits.specs.Bytes.{bytes_of}
use Rattle.jv_json.specs.Files.{explained_values}
use Rattle.jv_json.proofs.Plain.{IsPlain, explained_plain}
use Rattle.jv_program_explain.proofs.explaining.report_of.Goals as goal

pub json_lines-requires : goal.json_lines-requires
json_lines-requires c =
    let names = map bytes_of c.args.names.now in
    let said = map string_bytes c.args.said.now in
    let values : map view c.as_slice.result.now ≡ explained_values names c.args.verdicts.now c.args.lines.now said =
    ap (map view) c.as_slice.ensures.value ∙ c.in_ok-values.ensures {u = tt} in
    subst (λ (ds : List Data). All IsPlain ds) (sym values) (explained_plain names c.args.verdicts.now c.args.lines.now said)
