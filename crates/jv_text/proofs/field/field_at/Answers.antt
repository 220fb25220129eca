use Rattle.std.proofs.Common.{arith}
use Rattle.std.proofs.lemmas.Grind.{common_steps}
use Rattle.jv_text.proofs.Fields.{too_many, no_element}
use Rattle.jv_text.proofs.field.field_at.Goals as goal

pub returns-in_default-clause-none : goal.returns-in_default-clause-none
returns-in_default-clause-none c =
    let many = c.in_default.ensures.none in
    λ t x. too_many c.args.text.now many.0 many.1 t x

pub returns-in_default-element_at-clause-none : goal.returns-in_default-element_at-clause-none
returns-in_default-element_at-clause-none c = λ t x.
    no_element c.args.text.now c.in-Some.rest.now c.in-Some.dimensions c.in-Some.ensures.found c.in-Some.ensures.all
    c.in_default-element_at.ensures.no_base c.in_default-element_at.ensures.no_class t x

pub returns-clause-found : goal.returns-clause-found
returns-clause-found c = grind (arith, common_steps)
