use Rattle.std.proofs.Common.{◌∙◌, Some, ap, subst, sym}
use Rattle.std.specs.Prelude.{IfSome}
use Rattle.std.specs.Option.{option_and_then}
use Rattle.jv_lookups.specs.Places.{method_at, IsMethodPlace}
use Rattle.jv_lookups.proofs.Standing.{method_stands}
use Rattle.jv_meaning_typing.specs.Selection.{found_or_default}
use Rattle.jv_link.proofs.ending.found_or_default.Goals as goal

pub returns-in-Some-clause-found : goal.returns-in-Some-clause-found
returns-in-Some-clause-found c = λ l at e at_e.
    let world = c.args.table.now in
    let there = method_stands world c.in-Some.place (subst (λ o. IfSome o (IsMethodPlace world)) c.in-Some.is c.requires.found) in
    c.not_abstract.ensures.found there.0 there.1 ∙ ap (λ o. Some (found_or_default world l e.method o)) (sym (ap (option_and_then (method_at world)) c.in-Some.is ∙ there.1))
