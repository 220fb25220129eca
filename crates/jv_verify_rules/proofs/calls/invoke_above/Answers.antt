use Rattle.std.proofs.Common.{◌≡◌, ◌∙◌, List, ℕ, sym, ap, subst}
use Rattle.jv_meaning_typing.specs.Named.{current_type}
use Rattle.jv_meaning_typing.specs.MemberRules.{is_near, invoke_super}
use Rattle.jv_verify_types.specs.Typed.{TypeWorld, name_at, typed}
use Rattle.jv_verify_types.specs.Numbered.{frame_of}
use Rattle.jv_verify_types.specs.Outcomes.{IsOutcome}
use Rattle.jv_verify_types.specs.Current.{CurrentClass}
use Rattle.jv_verify_rules.specs.Operands.{IsMethod}
use Rattle.jv_verify_rules.proofs.Using.{of_class}
use Rattle.jv_verify_rules.proofs.Making.{class_named, not_above}
use Rattle.jv_verify_rules.proofs.calls.invoke_above.Goals as goal

pub returns-in-Some : goal.returns-in-Some
returns-in-Some c = λ env of named calls.
    let types : TypeWorld = c.args.context.now.class.types in
    let text : List ℕ = named.reference.class in
    let name : text ≡ name_at types.names c.in-Some.owner = class_named types.names text c.args.called.owner c.in-Some.owner calls.types.class (c.in-Some.ensures {u = tt}) in
    let current : current_type env ≡ typed types.names c.current.result =
    c.current.ensures env (of_class c.args.context.now env c.class.result.now of c.class.ensures) ∙ ap (λ (k : CurrentClass). typed k.types.names c.current.result) c.class.ensures in
    let near : is_near env text ≡ c.is_near.result =
    ap (is_near env) (name ∙ ap (λ (k : CurrentClass). name_at k.types.names c.in-Some.owner) (sym c.class-in-Some.ensures))
    ∙ c.is_near.ensures env (of_class c.args.context.now env c.class-in-Some.result.now of c.class-in-Some.ensures) in
    subst (λ (t : TypeWorld). IsOutcome t.names (invoke_super env named (frame_of t.names c.args.frame.now)) c.invoke_super.new.frame c.invoke_super.result) c.types.ensures
    (c.invoke_super.ensures env named (subst (λ (t : TypeWorld). IsMethod t env named c.method_operand.result) (sym c.types.ensures) (c.method_operand.ensures env of named calls))
    (subst (λ (t : TypeWorld). current_type env ≡ typed t.names c.current.result) (sym c.types.ensures) current) near)

pub returns-in-None : goal.returns-in-None
returns-in-None c = λ env of named calls.
    not_above c.args.context.now.class.types.names env named c.args.called.owner (frame_of c.args.context.now.class.types.names c.args.frame.now)
    calls.types.class calls.types.owner (c.in-None.ensures {u = tt})
