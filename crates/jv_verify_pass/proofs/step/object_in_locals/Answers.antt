use Rattle.std.proofs.Common.{Option, sym, ap, ◌∙◌}
use Rattle.std.specs.Option.{option_map}
use Rattle.jv_meaning_typing.specs.Rule.{without_object}
use Rattle.jv_verify_types.specs.Typed.{typed, typed_all}
use Rattle.jv_verify_types.specs.Numbered.{Item}
use Rattle.jv_verify_pass.proofs.Settling.{without_unheld}
use Rattle.jv_verify_pass.proofs.step.object_in_locals.Goals as goal

pub returns-else-has_in_locals : goal.returns-else-has_in_locals
returns-else-has_in_locals c = λ names.
    let locals = typed_all names c.args.frame.now.locals in
    sym (ap (λ (o : Option Item). without_object (option_map (typed names) o) locals) c.in-Some.is
    ∙ without_unheld (typed names c.in-Some.constructed) locals (sym (c.has_in_locals.ensures names) ∙ c.if-has_in_locals.false))
