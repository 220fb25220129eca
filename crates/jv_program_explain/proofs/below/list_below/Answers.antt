use Rattle.std.proofs.Common.{Some, refl, sym, subst}
use Rattle.std.specs.Prelude.{IsTrue, string_bytes}
use Rattle.std.proofs.lemmas.Result.{IfOk-weaker}
use Rattle.jv_meaning_typing.specs.declared.verdict.Verdict.{Verdict}
use Rattle.jv_meaning_typing.specs.Judgement.{IsVerdictOfContent}
use Rattle.jv_program_explain.specs.Explain.{TellsBelow}
use Rattle.jv_program_explain.specs.Inside.Numbered.{IsJudgedAt, StandsAt, is_on_methods}
use Rattle.jv_program_explain.proofs.BelowFaults.{fault_below, none_below}
use Rattle.jv_program_explain.proofs.below.list_below.Goals as goal

pub below_at-requires-clause-class : goal.below_at-requires-clause-class
below_at-requires-clause-class c =
    let judged = subst (λ (v : Verdict). IsTrue (is_on_methods v) → IsJudgedAt c.args.classes.now.world c.args.number v) c.in-Verify.is c.requires in
    (judged refl).class

pub below_at-requires-clause-guest : goal.below_at-requires-clause-guest
below_at-requires-clause-guest c =
    let judged = subst (λ (v : Verdict). IsTrue (is_on_methods v) → IsJudgedAt c.args.classes.now.world c.args.number v) c.in-Verify.is c.requires in
    (judged refl).guest

pub below_at-requires-clause-judged : goal.below_at-requires-clause-judged
below_at-requires-clause-judged c =
    let judged = subst (λ (v : Verdict). IsTrue (is_on_methods v) → IsJudgedAt c.args.classes.now.world c.args.number v) c.in-Verify.is c.requires in
    (judged refl).judged

pub returns-in-Verify : goal.returns-in-Verify
returns-in-Verify c =
    IfOk-weaker c.below_at.result _ _
    (λ text h why content is stands.
    let on = subst (λ (v : Verdict). IsVerdictOfContent c.args.classes.now.world why (Some content) v) c.in-Verify.is is in
    let there = subst (λ (v : Verdict). IsTrue (is_on_methods v) → StandsAt c.args.classes.now.world c.args.number content) c.in-Verify.is stands in
    subst (λ (v : Verdict). TellsBelow c.args.classes.now.world content v (string_bytes text)) (sym c.in-Verify.is)
    (fault_below c.args.classes.now.world c.args.number why content c.in-Verify.fault (string_bytes text) h on (there refl)))
    c.below_at.ensures

pub returns-in_default : goal.returns-in_default
returns-in_default c = λ why content is stands.
    none_below c.args.classes.now.world content c.args.verdict (string_bytes c.new.result) c.in_default.not-Verify c.new.ensures.bytes
