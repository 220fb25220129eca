use Rattle.std.proofs.Common.{ap, sym, subst, ◌∙◌}
use Rattle.jv_meaning_typing.specs.ValueRules.{return_nothing}
use Rattle.jv_verify_types.specs.PoolTypes.{typed_result}
use Rattle.jv_verify_types.specs.Numbered.{frame_of}
use Rattle.jv_verify_types.specs.Outcomes.{IsOutcome}
use Rattle.jv_verify_rules.proofs.returns.leave.Goals as goal

pub returns-in-Some : goal.returns-in-Some
returns-in-Some c = λ names described is.
    subst (λ d. IsOutcome names (return_nothing d (frame_of names c.args.frame.now)) c.args.frame.now c.return_nothing.result)
    (sym (is ∙ ap (typed_result names) c.in-Some.is)) (c.return_nothing.ensures names)

pub returns-in-None : goal.returns-in-None
returns-in-None c = λ names described is.
    subst (λ d. IsOutcome names (return_nothing d (frame_of names c.args.frame.now)) c.args.frame.now c.return_nothing-in-None.result)
    (sym (is ∙ ap (typed_result names) c.in-None.is)) (c.return_nothing-in-None.ensures names)
