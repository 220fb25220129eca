use Rattle.std.proofs.Common.{◌∙◌, ap}
use Rattle.jv_meaning_world.specs.Above.{superclasses}
use Rattle.jv_meaning_world.specs.Overriding.{alike_in}
use Rattle.jv_meaning_world.specs.LookUps.{else_option, first_found}
use Rattle.jv_link.proofs.chain.first_alike.Goals as goal

pub returns-clause-found : goal.returns-clause-found
returns-clause-found c = λ l at e at_e.
    c.superclass_alike.ensures.found l at e at_e
    ∙ ap (λ o. else_option o (first_found (λ s. alike_in s e.method) (superclasses c.args.table.now l.class))) (c.in_default.ensures.found l at e at_e)
