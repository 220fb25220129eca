use Rattle.std.proofs.Common.{sym, subst}
use Rattle.jv_verify_types.specs.Numbered.{frame_of}
use Rattle.jv_verify_types.specs.Outcomes.{IsOutcome}
use Rattle.jv_verify_rules.proofs.NamedTypes.{interface_called, interface_not_called}
use Rattle.jv_verify_rules.proofs.methods.invoke_interface.Goals as goal

pub returns-then-is_interface_call : goal.returns-then-is_interface_call
returns-then-is_interface_call c = λ env named is.
    let names = c.args.types.now.names in
    subst (λ o. IsOutcome names o c.call_on.new.frame c.call_on.result)
    (sym (interface_called c.args.types.now env named c.args.method is c.args.count c.is_interface_call.result (c.is_interface_call.ensures names)
    c.if-is_interface_call.true (frame_of names c.args.frame.now)))
    c.call_on.ensures

pub returns-else-is_interface_call : goal.returns-else-is_interface_call
returns-else-is_interface_call c = λ env named is.
    let names = c.args.types.now.names in
    interface_not_called c.args.types.now env named c.args.method is c.args.count c.is_interface_call.result (c.is_interface_call.ensures names)
    c.if-is_interface_call.false (frame_of names c.args.frame.now)
