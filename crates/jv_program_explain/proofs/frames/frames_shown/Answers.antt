use Rattle.std.proofs.Common.{refl, sym, subst}
use Rattle.std.specs.Prelude.{IsTrue, string_bytes}
use Rattle.std.proofs.lemmas.Result.{IfOk-weaker}
use Rattle.jv_meaning_typing.specs.declared.verdict.Verdict.{Verdict}
use Rattle.jv_meaning_typing.specs.Judgement.{IsVerdictOfContent}
use Rattle.std.proofs.Common.{Some}
use Rattle.jv_program_explain.specs.Frames.{AreFramesShown}
use Rattle.jv_program_explain.specs.Inside.Numbered.{IsJudgedAt, StandsAt, is_on_methods}
use Rattle.jv_program_explain.proofs.Faults.{fault_shown, none_shown}
use Rattle.jv_program_explain.proofs.frames.frames_shown.Goals as goal

pub frames_at-requires : goal.frames_at-requires
frames_at-requires c =
    let judged = subst (λ (v : Verdict). IsTrue (is_on_methods v) → IsJudgedAt c.args.classes.now.world c.args.number v) c.in-Verify.is c.requires in
    judged refl

pub returns-in-Verify : goal.returns-in-Verify
returns-in-Verify c =
    IfOk-weaker c.frames_at.result _ _
    (λ text h why content is stands.
    let on = subst (λ (v : Verdict). IsVerdictOfContent c.args.classes.now.world why (Some content) v) c.in-Verify.is is in
    let there = subst (λ (v : Verdict). IsTrue (is_on_methods v) → StandsAt c.args.classes.now.world c.args.number content) c.in-Verify.is stands in
    subst (λ (v : Verdict). AreFramesShown c.args.classes.now.world content v (string_bytes text)) (sym c.in-Verify.is)
    (fault_shown c.args.classes.now.world c.args.number why content c.in-Verify.fault (string_bytes text) h on (there refl)))
    c.frames_at.ensures

pub returns-in_default : goal.returns-in_default
returns-in_default c = λ why content is stands.
    none_shown c.args.classes.now.world content c.args.verdict (string_bytes c.new.result) c.in_default.not-Verify c.new.ensures.bytes
