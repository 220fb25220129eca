use Rattle.std.proofs.Common.{Option, sym, ap, subst, ◌∙◌}
use Rattle.std.specs.Prelude.{IfSome}
use Rattle.std.specs.Option.{option_and_then}
use Rattle.jv_lookups.specs.declared.place.Place.{Place}
use Rattle.jv_lookups.specs.Places.{method_at, IsMethodPlace}
use Rattle.jv_lookups.proofs.Standing.{method_stands}
use Rattle.jv_interp.proofs.main_method.number_of.Goals as goal

pub returns : goal.returns
returns c = λ world are is.
    let there = method_stands world c.in-Some.place (subst (λ (o : Option Place). IfSome o (IsMethodPlace world)) c.in-Some.is is) in
    c.number_of.ensures world there.0 are there.1 ∙ sym there.1 ∙ ap (option_and_then (method_at world)) (sym c.in-Some.is)

pub returns-in_default : goal.returns-in_default
returns-in_default c = λ world are is. ap (option_and_then (method_at world)) (sym c.in_default.is)
