use Rattle.std.proofs.Common.{sym, subst}
use Rattle.jv_format.specs.Format.{◌>>=◌}
use Rattle.jv_meaning_typing.specs.Named.{method_named_by}
use Rattle.jv_meaning_typing.specs.MemberRules.{invoke_interface}
use Rattle.jv_verify_types.specs.Typed.{TypeWorld}
use Rattle.jv_verify_types.specs.Numbered.{frame_of}
use Rattle.jv_verify_types.specs.Outcomes.{IsOutcome}
use Rattle.jv_verify_rules.specs.Operands.{IsMethod}
use Rattle.jv_verify_rules.proofs.Using.{IsNamed, is_named}
use Rattle.jv_verify_rules.proofs.calls.invoke_of_interface.Goals as goal

pub returns-in-Some : goal.returns-in-Some
returns-in-Some c = λ env of.
    let names = c.args.context.now.class.types.names in
    let called = c.in-Some.called in
    let found : IsNamed names (method_named_by env c.args.index) called = is_named names (method_named_by env c.args.index) called (c.in-Some.ensures {u = tt} env of) in
    subst (λ o. IsOutcome names (o >>= λ method. invoke_interface env c.args.count method (frame_of names c.args.frame.now)) c.invoke_interface.new.frame c.invoke_interface.result) (sym found.is)
    (subst (λ (t : TypeWorld). IsOutcome t.names (invoke_interface env c.args.count found.method (frame_of t.names c.args.frame.now))
    c.invoke_interface.new.frame c.invoke_interface.result) c.types.ensures
    (c.invoke_interface.ensures env found.method
    (subst (λ (t : TypeWorld). IsMethod t env found.method c.method_operand.result) (sym c.types.ensures)
    (c.method_operand.ensures env of found.method (record { named = found.is; types = found.types })))))
