use Rattle.std.proofs.Common.{Some, refl, sym, subst}
use Rattle.std.specs.Prelude.{IsTrue, string_bytes}
use Rattle.std.proofs.lemmas.Result.{IfOk-weaker}
use Rattle.jv_meaning_typing.specs.declared.verdict.Verdict.{Verdict}
use Rattle.jv_meaning_typing.specs.Judgement.{IsVerdictOfContent}
use Rattle.jv_program_explain.specs.Explain.{IsExplainedBy, IsSaid}
use Rattle.jv_program_explain.specs.Inside.Numbered.{IsContentFor, IsJudgedAt, StandsAt, is_on_methods}
use Rattle.jv_program_explain.proofs.said.said_at.Goals as goal

pub accepted_told-requires : goal.accepted_told-requires
accepted_told-requires c =
    let judged = subst (λ (v : Verdict). IsTrue (is_on_methods v) → IsJudgedAt c.args.classes.now.world c.args.number v) c.in-Accepted.is c.requires in
    judged refl

pub returns-in_ok-accepted_told-in-Accepted : goal.returns-in_ok-accepted_told-in-Accepted
returns-in_ok-accepted_told-in-Accepted c = λ why content is v stands beyond.
    let world = c.args.classes.now.world in
    let text = string_bytes c.in_ok-accepted_told-in-Accepted.field-0 in
    let on = subst (λ (w : Verdict). IsVerdictOfContent world why (Some content) w) c.in-Accepted.is v in
    let there = subst (λ (w : Verdict). IsTrue (is_on_methods w) → StandsAt world c.args.number content) c.in-Accepted.is stands in
    subst (λ (w : Verdict). IsSaid c.args.settings world c.args.bytes.now content w text) (sym c.in-Accepted.is)
    (c.in_ok-accepted_told-in-Accepted.ensures why content on (there refl))

pub returns-in-Refused : goal.returns-in-Refused
returns-in-Refused c =
    IfOk-weaker c.refused_told.result _ _
    (λ text told why content is v stands beyond.
    subst (λ (w : Verdict). IsSaid c.args.settings c.args.classes.now.world c.args.bytes.now content w (string_bytes text)) (sym c.in-Refused.is)
    (told content is (subst (λ (w : Verdict). IsContentFor w content) c.in-Refused.is beyond)))
    c.refused_told.ensures

pub returns-in-Verify : goal.returns-in-Verify
returns-in-Verify c =
    let world = c.args.classes.now.world in
    IfOk-weaker c.verdict_told.result _ _
    (λ text told why content is v stands beyond.
    subst (λ (w : Verdict). IsSaid c.args.settings world c.args.bytes.now content w (string_bytes text)) (sym c.in-Verify.is)
    (subst (λ (w : Verdict). IsExplainedBy c.args.settings world content w (string_bytes text)) c.in-Verify.is (told why content is v stands)))
    c.verdict_told.ensures
