use Rattle.std.proofs.Common.{sym, subst}
use Rattle.std.specs.Prelude.{IsSomeAnd, string_bytes}
use Rattle.jv_class_structure.specs.Structure.{ClassStructure}
use Rattle.jv_meaning_world.specs.FileContent.{IsContent}
use Rattle.jv_meaning_world.specs.declared.content.Content.{Content}
use Rattle.jv_meaning_typing.specs.declared.verdict.Verdict.{Verdict}
use Rattle.jv_meaning_typing.specs.Judgement.{IsVerdictOfContent}
use Rattle.std.proofs.Common.{Some}
use Rattle.jv_loader.specs.Inside.Reading.{content_of}
use Rattle.jv_explain.specs.Explained.{IsExplanation}
use Rattle.jv_explain.proofs.Contents.{held, not_held}
use Rattle.jv_explain.proofs.file.explain_file.Goals as goal

pub returns-in_ok-explain_in-in-Holds : goal.returns-in_ok-explain_in-in-Holds
returns-in_ok-explain_in-in-Holds c = λ world why content is verdict.
    let bytes = c.args.bytes.now in
    let text = string_bytes c.in_ok-explain_in-in-Holds.field-0 in
    let on = subst (λ (v : Verdict). IsVerdictOfContent world why (Some content) v) c.in-Verify.is verdict in
    let read = subst (λ (f : Content ClassStructure). IsSomeAnd (content_of f) (IsContent bytes)) c.in-Holds.is c.in_ok-file.ensures in
    subst (λ (v : Verdict). IsExplanation content v c.args.above.now c.args.frames.now text) (sym c.in-Verify.is)
    (held c.one_content.ensures bytes c.in-Verify.fault c.args.above.now c.args.frames.now text world why content is on c.in-Holds.file read c.in_ok-explain_in-in-Holds.ensures)

pub returns-in_default-2 : goal.returns-in_default-2
returns-in_default-2 c = λ world why content is verdict.
    let on = subst (λ (v : Verdict). IsVerdictOfContent world why (Some content) v) c.in-Verify.is verdict in
    absurd (not_held c.one_content.ensures c.args.bytes.now c.in-Verify.fault c.args.above.now c.args.frames.now (string_bytes c.new-in_default-2.result) world why content is on c.in_ok-file.field-0
    c.in_default-2.not-Holds c.in_ok-file.ensures)
