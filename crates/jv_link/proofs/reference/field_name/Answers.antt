use Rattle.std.proofs.Common.{sym, subst}
use Rattle.std.specs.Prelude.{IsSome}
use Rattle.jv_pool.specs.Constants.{field_reference_at}
use Rattle.jv_classes.proofs.Followed.{some_class}
use Rattle.jv_link.proofs.Operands.{no_field}
use Rattle.jv_link.proofs.reference.field_name.Goals as goal

pub field_reference-requires : goal.field_reference-requires
field_reference-requires c =
    let class = some_class c.args.table.now c.args.class c.requires.class in
    subst (λ p. IsSome (field_reference_at p c.args.index)) (sym (c.in-Some.ensures.pool class.0 class.1)) (c.requires.operand class.0 class.1)

pub unreachable-requires : goal.unreachable-requires
unreachable-requires c =
    let class = some_class c.args.table.now c.args.class c.requires.class in
    no_field c.args.index (subst (λ p. IsSome (field_reference_at p c.args.index)) (c.in-None.ensures.none class.0 class.1) (c.requires.operand class.0 class.1))
