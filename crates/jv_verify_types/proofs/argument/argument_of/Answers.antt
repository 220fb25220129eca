use Rattle.std.proofs.Common.{ap, ◌∙◌}
use Rattle.jv_verify_types.specs.Typed.{typed}
use Rattle.jv_verify_types.proofs.Packing.{typed_value}
use Rattle.jv_verify_types.proofs.argument.argument_of.Goals as goal

pub returns-in-Some : goal.returns-in-Some
returns-in-Some c = λ names. ap (typed names) c.in-Some.ensures ∙ typed_value names c.args.type_of
