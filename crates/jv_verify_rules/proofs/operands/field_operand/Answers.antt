use Rattle.jv_meaning_typing.specs.Named.{field_named_by}
use Rattle.jv_verify_rules.proofs.Using.{uses_field}
use Rattle.jv_verify_rules.proofs.operands.field_operand.Goals as goal

pub returns : goal.returns
returns c = λ env of.
    uses_field c.args.context.now.class.types env (field_named_by env c.args.index) c.in_ok-field.field c.guard_at.result c.sets_own.result of.class.world (c.in_ok-field.ensures {u = tt} env of)
    (c.guard_at.ensures.field env of) (c.sets_own.ensures env of)
