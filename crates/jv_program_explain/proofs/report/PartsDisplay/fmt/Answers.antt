use Rattle.std.proofs.Common.{rules, ◌≡◌, length, map, min, refl, ◌∙◌}
use Rattle.std.specs.Prelude.{string_bytes}
use Rattle.std.proofs.Output.{has_written_append, has_written_of_eq}
use Rattle.std.proofs.lemmas.List.{length-map}
use Rattle.std.proofs.lemmas.Option.{slice_get-map}
use Rattle.jv_limits.specs.Bytes.{bytes_of}
use Rattle.jv_program_explain.specs.Text.{explain_text}
use Rattle.jv_program_explain.proofs.InParts.{one_is_least, parts-more, parts-take}
use Rattle.jv_program_explain.proofs.report.PartsDisplay.fmt.Goals as goal

pub loop-place-init : goal.loop-place-init
unfolding explain_text
loop-place-init g c = search rules

-- one part more
pub loop-place-preserved : goal.loop-place-preserved
loop-place-preserved g c = λ plain.
    let parts = c.args.self.now in
    let so_far = c.loop-place.invariant plain in
    let part = c.in_ok-write.ensures.writes so_far.plain refl in
    has_written_of_eq _ _ _ _ _
    (parts-more c.loop-place.place (map bytes_of parts.names.now) parts.verdicts.now (map string_bytes parts.said.now) c.bytes_at.result.now c.verdict_at.result c.text_at.result.now
    (slice_get-map bytes_of parts.names.now c.loop-place.place ∙ c.bytes_at.ensures) c.verdict_at.ensures
    (slice_get-map string_bytes parts.said.now c.loop-place.place ∙ c.text_at.ensures))
    (has_written_append _ _ _ _ _ _ so_far part)

-- as many parts as there are names, verdicts or texts
pub returns-clause-writes : goal.returns-clause-writes
returns-clause-writes g c = λ plain _.
    let parts = c.args.self.now in
    let names = length-map parts.names.now bytes_of in
    let texts = length-map parts.said.now string_bytes in
    let end : c.loop-place.place ≡ min (min (length parts.names.now) (length parts.verdicts.now)) (length parts.said.now) = search rules in
    let all : c.loop-place.place ≡ min (min (length (map bytes_of parts.names.now)) (length parts.verdicts.now)) (length (map string_bytes parts.said.now)) =
    rw (names, texts) end in
    has_written_of_eq _ _ _ _ _ (parts-take c.loop-place.place (map bytes_of parts.names.now) parts.verdicts.now (map string_bytes parts.said.now) (one_is_least _ _ _ _ all))
    (c.loop-place.invariant plain)
