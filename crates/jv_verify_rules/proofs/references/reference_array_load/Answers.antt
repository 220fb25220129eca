use Rattle.std.proofs.Common.{sym, subst}
use Rattle.jv_verify_types.specs.Outcomes.{IsOutcome}
use Rattle.jv_verify_rules.proofs.NewObjects.{component_behind}
use Rattle.jv_verify_rules.proofs.references.reference_array_load.Goals as goal

pub returns-then-take : goal.returns-then-take
returns-then-take c =
    let names = c.args.types.now.names in
    subst (λ o. IsOutcome names o c.load_component.new.frame c.load_component.result)
    (sym (component_behind names c.args.types.now.world c.args.frame.now c.take.new.frame c.if-take.ensures.0 c.if-take.ensures.1))
    (c.load_component.ensures names)
