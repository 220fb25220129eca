use Rattle.std.proofs.Common.{sym, ◌∙◌}
use Rattle.jv_lookups.proofs.Numbering.{found_first, nothing_new, added_first}
use Rattle.jv_lookups.proofs.packages.place_of.Goals as goal

pub returns-in-Some-clause-place : goal.returns-in-Some-clause-place
returns-in-Some-clause-place c = found_first c.args.names.now c.args.text.now c.in-Some.place (sym c.place_of.ensures ∙ c.in-Some.is)

pub returns-in-Some-clause-names : goal.returns-in-Some-clause-names
returns-in-Some-clause-names c =
    nothing_new c.args.names.now c.args.text.now c.in-Some.place
    (found_first c.args.names.now c.args.text.now c.in-Some.place (sym c.place_of.ensures ∙ c.in-Some.is))

pub returns-clause-place : goal.returns-clause-place
returns-clause-place c =
    rw (c.in_ok-add.ensures.ok, c.count-place.ensures) (added_first c.args.names.now c.args.text.now (sym c.place_of.ensures ∙ c.in_default.is))
