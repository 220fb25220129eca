use Rattle.std.proofs.Common.{ap, ◌∙◌}
use Rattle.jv_verify_types.specs.Typed.{typed}
use Rattle.jv_verify_types.proofs.Packing.{typed_value}
use Rattle.jv_verify_types.proofs.value.value_type.Goals as goal

pub returns : goal.returns
returns c = λ names. ap (typed names) c.value_item.ensures ∙ typed_value names c.args.type_of
