use Rattle.std.proofs.Common.{◌∙◌, Some, ap}
use Rattle.jv_verify_types.proofs.Finding.{object_of_named}
use Rattle.jv_verify_types.proofs.constants.class_item.Goals as goal

pub returns : goal.returns
returns c = λ names arguments kept.
    ap (λ t. Some t) (c.value_type.ensures names) ∙ object_of_named c.args.pool.now c.args.index _ (c.in_ok-type_of.ensures names arguments kept)
