use Rattle.std.proofs.Common.{sym, subst}
use Rattle.jv_format.specs.Format.{◌>>=◌}
use Rattle.jv_meaning_typing.specs.Named.{field_named_by}
use Rattle.jv_meaning_typing.specs.MemberRules.{access_field}
use Rattle.jv_verify_types.specs.Typed.{TypeWorld}
use Rattle.jv_verify_types.specs.Numbered.{frame_of}
use Rattle.jv_verify_types.specs.Outcomes.{IsOutcome}
use Rattle.jv_verify_rules.specs.Operands.{IsField}
use Rattle.jv_verify_rules.proofs.Using.{IsUsed, is_used}
use Rattle.jv_verify_rules.proofs.fields.use_field.Goals as goal

pub returns-in-Some : goal.returns-in-Some
returns-in-Some c = λ env of.
    let types : TypeWorld = c.args.context.now.class.types in
    let found : IsUsed types env (field_named_by env c.args.index) c.in-Some.field = is_used types env (field_named_by env c.args.index) c.in-Some.field (c.in-Some.ensures {u = tt} env of) in
    subst (λ o. IsOutcome types.names (o >>= λ field. access_field env c.args.access field (frame_of types.names c.args.frame.now)) c.access_field.new.frame c.access_field.result) (sym found.is)
    (subst (λ (t : TypeWorld). IsOutcome t.names (access_field env c.args.access found.field (frame_of t.names c.args.frame.now)) c.access_field.new.frame c.access_field.result) c.types.ensures
    (c.access_field.ensures env found.field (subst (λ (t : TypeWorld). IsField t env found.field c.in-Some.field) (sym c.types.ensures) found.types)))
