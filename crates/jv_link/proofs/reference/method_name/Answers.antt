use Rattle.std.proofs.Common.{sym, subst}
use Rattle.std.specs.Prelude.{IsSome}
use Rattle.jv_classes.proofs.Followed.{some_class}
use Rattle.jv_link.specs.Inside.References.{method_operand_in}
use Rattle.jv_link.proofs.Operands.{no_method}
use Rattle.jv_link.proofs.reference.method_name.Goals as goal

pub method_name_in-requires : goal.method_name_in-requires
method_name_in-requires c =
    let class = some_class c.args.table.now c.args.class c.requires.class in
    subst (λ p. IsSome (method_operand_in p c.args.index)) (sym (c.in-Some.ensures.pool class.0 class.1)) (c.requires.operand class.0 class.1)

pub unreachable-requires : goal.unreachable-requires
unreachable-requires c =
    let class = some_class c.args.table.now c.args.class c.requires.class in
    no_method c.args.index (subst (λ p. IsSome (method_operand_in p c.args.index)) (c.in-None.ensures.none class.0 class.1) (c.requires.operand class.0 class.1))
