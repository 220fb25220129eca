use Rattle.std.proofs.Common.{sym, subst, ap}
use Rattle.jv_format.specs.Format.{◌>>=◌}
use Rattle.jv_meaning_typing.specs.ValueRules.{take_reference}
use Rattle.jv_verify_types.specs.Outcomes.{IsOutcome}
use Rattle.jv_verify_rules.proofs.references.test_references.Goals as goal

pub returns-then-take_reference : goal.returns-then-take_reference
returns-then-take_reference c = λ names.
    subst (λ o. IsOutcome names o c.test_reference.new.frame c.test_reference.result)
    (sym (ap (λ o. o >>= take_reference) (c.if-take_reference.ensures names))) (c.test_reference.ensures names)

pub returns-else-take_reference : goal.returns-else-take_reference
returns-else-take_reference c = λ names. ap (λ o. o >>= take_reference) (c.if-take_reference.ensures names)
