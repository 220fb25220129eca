use Rattle.std.proofs.Common.{rules, ◌≡◌, ◌+◌, List, ◌∷◌, ◌++◌, [], drop, length, map, min, ap, ◌∙◌}
use Rattle.std.proofs.lemmas.List.{length-map, map-append}
use Rattle.std.proofs.lemmas.Option.{slice_get-map}
use Rattle.serde_json.specs.Data.{Data}
use Rattle.serde_json.specs.View.{view}
use Rattle.jv_limits.specs.Bytes.{bytes_of}
use Rattle.jv_json.specs.Files.{file_value, file_values}
use Rattle.jv_json.proofs.InFiles.{files-all, files-more, least_of_two}
use Rattle.jv_json.proofs.files.file_values.Goals as goal

pub loop-place-preserved : goal.loop-place-preserved
loop-place-preserved c =
    let names = map bytes_of c.args.names.now in
    let verdicts = c.args.verdicts.now in
    let k = c.loop-place.place in
    let before = c.loop-place.values.items in
    let name = c.bytes_at.result.now in
    let verdict = c.verdict_at.result in
    let value = c.in_ok-value.value in
    let pushed : c.push.new.self.items ≡ before ++ value ∷ [] = search rules in
    let is : view value ≡ file_value name verdict = c.in_ok-value.ensures {u = tt} in
    let values : map view c.push.new.self.items ≡ map view before ++ file_value name verdict ∷ [] =
    ap (map view) pushed ∙ (map-append view before (value ∷ []) ∙ ap (λ (d : Data). map view before ++ d ∷ []) is) in
    ap (λ (ds : List Data). ds ++ file_values (drop (k + 1) names) (drop (k + 1) verdicts)) values
    ∙ files-more k names verdicts (file_values names verdicts) (map view before) name verdict
    (slice_get-map bytes_of c.args.names.now k ∙ c.bytes_at.ensures) c.verdict_at.ensures c.loop-place.invariant

pub returns : goal.returns
returns c =
    let names = map bytes_of c.args.names.now in
    let verdicts = c.args.verdicts.now in
    let k = c.loop-place.place in
    let end : k ≡ min (length c.args.names.now) (length verdicts) = search rules in
    let many : k ≡ min (length names) (length verdicts) = rw (length-map c.args.names.now bytes_of) end in
    files-all k names verdicts (file_values names verdicts) (map view c.loop-place.values.items) (least_of_two k (length names) (length verdicts) many)
    c.loop-place.invariant
