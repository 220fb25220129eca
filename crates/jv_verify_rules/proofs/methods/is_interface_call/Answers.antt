use Rattle.std.proofs.Common.{◌+◌, ◌==◌, ◌&&◌, ap, ◌∙◌, sym}
use Rattle.jv_stackmap.specs.Types.{words}
use Rattle.jv_verify_types.specs.Typed.{typed_all}
use Rattle.jv_verify_rules.proofs.methods.is_interface_call.Goals as goal

pub returns-then-is_of_interface : goal.returns-then-is_of_interface
returns-then-is_of_interface c = λ names.
    c.counts_arguments.ensures names
    ∙ ap (λ b. b && (c.args.count == words (typed_all names c.args.method.arguments.now) + 1)) (sym c.if-is_of_interface.true ∙ c.is_of_interface.ensures)
