use Rattle.std.proofs.Common.{sym, subst}
use Rattle.jv_verify_types.specs.Numbered.{frame_of}
use Rattle.jv_verify_types.specs.Outcomes.{IsOutcome}
use Rattle.jv_verify_rules.proofs.NamedTypes.{virtual_called}
use Rattle.jv_verify_rules.proofs.methods.invoke_virtual.Goals as goal

pub returns-then-method-2 : goal.returns-then-method-2
returns-then-method-2 c = λ env named is.
    let names = c.args.types.now.names in
    subst (λ o. IsOutcome names o c.call_on.new.frame c.call_on.result)
    (sym (virtual_called c.args.types.now env named c.args.method is c.if-method.true c.if-method-2.true (frame_of names c.args.frame.now))) c.call_on.ensures
