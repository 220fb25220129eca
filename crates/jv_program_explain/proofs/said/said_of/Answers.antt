use Rattle.std.proofs.Common.{rules, ◌≡◌, ℕ, ◌+◌, ◌<◌, List, ◌∷◌, ◌++◌, [], length, map, min, sym, ap, subst, ◌∙◌, arith}
use Rattle.std.specs.Prelude.{slice_get, string_bytes}
use Rattle.std.proofs.lemmas.List.{length-map, map-append}
use Rattle.std.proofs.lemmas.Option.{slice_get-map}
use Rattle.jv_limits.specs.Bytes.{bytes_of}
use Rattle.jv_program_explain.specs.Inside.Below.{AreExplainedBelow}
use Rattle.jv_program_explain.proofs.Saying.{all_said, none_yet, one_more, judged_at, within_at}
use Rattle.jv_program_explain.proofs.said.said_of.Goals as goal

pub loop-place-init : goal.loop-place-init
loop-place-init c = λ given contents are found.
    subst (λ (said : List (List ℕ)). AreExplainedBelow c.args.settings given (map bytes_of c.args.files.now) contents c.args.verified.now.verdicts 0 c.host_count-number.result said)
    (sym (ap (map string_bytes) c.new-said.ensures.items))
    (none_yet c.args.settings given (map bytes_of c.args.files.now) contents c.args.verified.now.verdicts c.host_count-number.result (c.host_count-number.ensures.count ∙ found.host))

pub said_at-requires : goal.said_at-requires
said_at-requires c =
    let files = c.args.files.now in
    let are = c.requires.1 in
    let many : length (map bytes_of files) ≡ length files = length-map files bytes_of in
    let less : c.loop-place.place < length files = search rules in
    judged_at (map bytes_of files) are.given are.contents are.read c.args.verified.now are.found c.args.settings c.loop-place.place (omega (arith, many, less)) c.verdict_at-verdict.result
    (ap (λ vs. slice_get vs c.loop-place.place) (sym c.verdicts-verdicts.ensures) ∙ c.verdict_at-verdict.ensures) c.loop-place.number
    (c.loop-place.invariant are.given are.contents are.read are.found).number_is c.classes-classes.result.now.world c.classes-classes.ensures

pub next_number-number-requires : goal.next_number-number-requires
next_number-number-requires c =
    let files = c.args.files.now in
    let are = c.requires.1 in
    let many : length (map bytes_of files) ≡ length files = length-map files bytes_of in
    let less : c.loop-place.place < length files = search rules in
    within_at (map bytes_of files) are.given are.contents are.read c.args.verified.now are.found c.args.settings c.loop-place.place (omega (arith, many, less)) c.verdict_at-verdict.result
    (ap (λ vs. slice_get vs c.loop-place.place) (sym c.verdicts-verdicts.ensures) ∙ c.verdict_at-verdict.ensures) c.loop-place.number
    (c.loop-place.invariant are.given are.contents are.read are.found).number_is c.classes-classes.result.now.world c.classes-classes.ensures

pub loop-place-preserved : goal.loop-place-preserved
loop-place-preserved c = λ given contents are found.
    let files = c.args.files.now in
    let many : length (map bytes_of files) ≡ length files = length-map files bytes_of in
    let less : c.loop-place.place < length files = search rules in
    let before = c.loop-place.said.items in
    let below = c.loop-place.invariant given contents are found in
    let pushed : c.push.new.self.items ≡ before ++ c.in-Ok.text ∷ [] = search rules in
    let texts : map string_bytes c.push.new.self.items ≡ map string_bytes before ++ string_bytes c.in-Ok.text ∷ [] =
    ap (map string_bytes) pushed ∙ map-append string_bytes before (c.in-Ok.text ∷ []) in
    subst (λ (said : List (List ℕ)).
    AreExplainedBelow c.args.settings given (map bytes_of files) contents c.args.verified.now.verdicts (c.loop-place.place + 1) c.next_number-number.result said) (sym texts)
    (one_more (map bytes_of files) given contents are c.args.verified.now found c.args.settings c.loop-place.place (omega (arith, many, less)) c.verdict_at-verdict.result
    (ap (λ vs. slice_get vs c.loop-place.place) (sym c.verdicts-verdicts.ensures) ∙ c.verdict_at-verdict.ensures) c.loop-place.number below.number_is
    c.classes-classes.result.now.world c.classes-classes.ensures (map string_bytes before) below c.bytes_at-bytes.result.now (string_bytes c.in-Ok.text) c.next_number-number.result
    (slice_get-map bytes_of files c.loop-place.place ∙ c.bytes_at-bytes.ensures) c.next_number-number.ensures c.in-Ok.ensures)

pub returns : goal.returns
returns c = λ given contents are found.
    let files = c.args.files.now in
    let verdicts = c.args.verified.now.verdicts in
    let end : c.loop-place.place ≡ min (length files) (length c.verdicts-verdicts.result.now) = search rules in
    let many : length (map bytes_of files) ≡ length files = length-map files bytes_of in
    all_said (map bytes_of files) given contents are c.args.verified.now found c.args.settings c.loop-place.place c.loop-place.number (map string_bytes c.loop-place.said.items)
    (c.loop-place.invariant given contents are found)
    (end ∙ (ap (λ (n : ℕ). min n (length c.verdicts-verdicts.result.now)) (sym many) ∙ ap (λ vs. min (length (map bytes_of files)) (length vs)) c.verdicts-verdicts.ensures))
