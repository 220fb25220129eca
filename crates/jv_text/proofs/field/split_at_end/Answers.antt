use Rattle.std.proofs.Common.{sym, ◌∙◌}
use Rattle.jv_text.proofs.Names.{at_end, no_end}
use Rattle.jv_text.proofs.field.split_at_end.Goals as goal

pub returns-in_default-clause-none : goal.returns-in_default-clause-none
returns-in_default-clause-none c = no_end c.args.text.now (sym c.end_of.ensures ∙ c.in_default.is)

pub returns-clause-found : goal.returns-clause-found
returns-clause-found c =
    let place = at_end c.args.text.now c.in-Some.length (sym c.end_of.ensures ∙ c.in-Some.is) in
    rw (c.split_at.ensures.front, c.split_at-2.ensures.back, c.split_at.ensures.back) place.0

pub returns-clause-first : goal.returns-clause-first
returns-clause-first c =
    let place = at_end c.args.text.now c.in-Some.length (sym c.end_of.ensures ∙ c.in-Some.is) in
    rw c.split_at.ensures.front place.1
