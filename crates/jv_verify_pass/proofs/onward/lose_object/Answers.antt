use Rattle.std.proofs.Common.{sym, ap, ◌∙◌}
use Rattle.std.specs.Option.{option_map}
use Rattle.jv_stackmap.specs.declared.verification.VerificationTypeOf.TheVariants as variants
use Rattle.jv_meaning_typing.specs.Rule.{without_object}
use Rattle.jv_verify_types.specs.Typed.{typed, typed_all}
use Rattle.jv_verify_pass.proofs.GoingOn.{as_long}
use Rattle.jv_verify_pass.proofs.onward.lose_object.Goals as goal

pub returns-in-Some-clause-locals : goal.returns-in-Some-clause-locals
returns-in-Some-clause-locals c = λ names.
    c.replace_locals.ensures.locals names ∙ ap (λ o. without_object (option_map (typed names) o) (typed_all names c.args.frame.now.locals)) (sym c.in-Some.is)

pub returns-in-Some-clause-count : goal.returns-in-Some-clause-count
returns-in-Some-clause-count c = as_long c.in-Some.object variants.Top c.args.frame.now.locals c.replace_locals.new.self.locals c.replace_locals.ensures.locals
