use Rattle.std.proofs.Common.{sym, subst}
use Rattle.std.specs.Prelude.{IfOk}
use Rattle.jv_verify_types.specs.declared.outcome.Outcome.{Outcome}
use Rattle.jv_verify_types.specs.Outcomes.{IsFrame, IsOutcome}
use Rattle.jv_verify_rules.specs.Inside.Over.{settled}
use Rattle.jv_verify_rules.proofs.settling.settle.Goals as goal

pub returns-in-Leaves : goal.returns-in-Leaves
returns-in-Leaves c = λ names env left same is.
    subst (λ o. IsFrame names (settled env o) c.args.frame.now c.is_within.result)
    (sym (subst (λ (o : Outcome). IsOutcome names left c.args.frame.now o) c.in-Leaves.is is)) (c.is_within.ensures names env same)

pub returns-in-Gives : goal.returns-in-Gives
returns-in-Gives c = λ names env left same is.
    subst (λ o. IfOk c.push_within.result (IsFrame names (settled env o) c.push_within.new.frame))
    (sym (subst (λ (o : Outcome). IsOutcome names left c.args.frame.now o) c.in-Gives.is is)) (c.push_within.ensures names env same)
