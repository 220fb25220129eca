use Rattle.std.proofs.Common.{rules, ◌≡◌, ◌+◌, List, ◌∷◌, ◌++◌, [], drop, length, map, min, ap, ◌∙◌}
use Rattle.std.specs.Prelude.{string_bytes}
use Rattle.std.proofs.lemmas.List.{length-map, map-append}
use Rattle.std.proofs.lemmas.Option.{slice_get-map}
use Rattle.serde_json.specs.Data.{Data}
use Rattle.serde_json.specs.View.{view}
use Rattle.jv_limits.specs.Bytes.{bytes_of}
use Rattle.jv_json.specs.Files.{explained_value, explained_values}
use Rattle.jv_json.proofs.InFiles.{explained-all, explained-more, least_of_four}
use Rattle.jv_json.proofs.files.explained_values.Goals as goal

pub loop-place-preserved : goal.loop-place-preserved
loop-place-preserved c =
    let names = map bytes_of c.args.names.now in
    let verdicts = c.args.verdicts.now in
    let lines = c.args.lines.now in
    let said = map string_bytes c.args.said.now in
    let k = c.loop-place.place in
    let before = c.loop-place.values.items in
    let name = c.bytes_at-name.result.now in
    let verdict = c.verdict_at-verdict.result in
    let line = c.line_at-line.result in
    let text = c.text_at.result.now in
    let value = c.in_ok-value.value in
    let pushed : c.push.new.self.items ≡ before ++ value ∷ [] = search rules in
    let is : view value ≡ explained_value name verdict line text = c.in_ok-value.ensures {u = tt} in
    let values : map view c.push.new.self.items ≡ map view before ++ explained_value name verdict line text ∷ [] =
    ap (map view) pushed ∙ (map-append view before (value ∷ []) ∙ ap (λ (d : Data). map view before ++ d ∷ []) is) in
    ap (λ (ds : List Data). ds ++ explained_values (drop (k + 1) names) (drop (k + 1) verdicts) (drop (k + 1) lines) (drop (k + 1) said)) values
    ∙ explained-more k names verdicts lines said (explained_values names verdicts lines said) (map view before) name verdict line text
    (slice_get-map bytes_of c.args.names.now k ∙ c.bytes_at-name.ensures) c.verdict_at-verdict.ensures c.line_at-line.ensures
    (slice_get-map string_bytes c.args.said.now k ∙ c.text_at.ensures) c.loop-place.invariant

pub returns : goal.returns
returns c =
    let names = map bytes_of c.args.names.now in
    let verdicts = c.args.verdicts.now in
    let said = map string_bytes c.args.said.now in
    let lines = c.args.lines.now in
    let k = c.loop-place.place in
    let end : k ≡ min (min (min (length c.args.names.now) (length verdicts)) (length lines)) (length c.args.said.now) = search rules in
    let many : k ≡ min (min (min (length names) (length verdicts)) (length lines)) (length said) =
    rw (length-map c.args.names.now bytes_of, length-map c.args.said.now string_bytes) end in
    explained-all k names verdicts lines said (explained_values names verdicts lines said) (map view c.loop-place.values.items)
    (least_of_four k (length names) (length verdicts) (length lines) (length said) many) c.loop-place.invariant
