use Rattle.std.proofs.Common.{sym, subst}
use Rattle.jv_meaning_typing.specs.MemberRules.{invoke_virtual, invoke_static, invoke}
use Rattle.jv_verify_types.specs.Typed.{TypeWorld}
use Rattle.jv_verify_types.specs.Numbered.{frame_of}
use Rattle.jv_verify_types.specs.Outcomes.{IsOutcome}
use Rattle.jv_verify_rules.specs.Operands.{IsMethod}
use Rattle.jv_verify_rules.proofs.calls.invoke_as.Goals as goal

pub returns-in-Virtual : goal.returns-in-Virtual
returns-in-Virtual c = λ env of named calls.
    let names = c.args.context.now.class.types.names in
    subst (λ how. IsOutcome names (invoke env how named (frame_of names c.args.frame.now)) c.invoke_virtual.new.frame c.invoke_virtual.result) (sym c.in-Virtual.is)
    (subst (λ (t : TypeWorld). IsOutcome t.names (invoke_virtual env named (frame_of t.names c.args.frame.now)) c.invoke_virtual.new.frame c.invoke_virtual.result) c.types.ensures
    (c.invoke_virtual.ensures env named (subst (λ (t : TypeWorld). IsMethod t env named c.method_operand.result) (sym c.types.ensures) (c.method_operand.ensures env of named calls))))

pub returns-in-Static : goal.returns-in-Static
returns-in-Static c = λ env of named calls.
    let names = c.args.context.now.class.types.names in
    subst (λ how. IsOutcome names (invoke env how named (frame_of names c.args.frame.now)) c.invoke_static.new.frame c.invoke_static.result) (sym c.in-Static.is)
    (subst (λ (t : TypeWorld). IsOutcome t.names (invoke_static env named (frame_of t.names c.args.frame.now)) c.invoke_static.new.frame c.invoke_static.result) c.types-in-Static.ensures
    (c.invoke_static.ensures env named (subst (λ (t : TypeWorld). IsMethod t env named c.method_operand-in-Static.result)
    (sym c.types-in-Static.ensures) (c.method_operand-in-Static.ensures env of named calls))))
