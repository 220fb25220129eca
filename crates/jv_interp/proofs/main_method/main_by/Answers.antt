use Rattle.std.proofs.Common.{sym, ◌∙◌}
use Rattle.jv_classes.proofs.Followed.{some_class}
use Rattle.jv_classes.proofs.Numbers.{position_within}
use Rattle.jv_interp.proofs.MainFound.{no_class, main_is}
use Rattle.jv_interp.proofs.main_method.main_by.Goals as goal

pub returns-in_default-clause-found : goal.returns-in_default-clause-found
returns-in_default-clause-found c = no_class c.args.table.now c.args.main.now (sym c.find.ensures ∙ c.in_default.is)

pub returns-clause-found : goal.returns-clause-found
returns-clause-found c =
    let number = sym c.find.ensures ∙ c.in-Some.is in
    let there = some_class c.args.table.now c.in-Some.class (position_within _ c.args.table.now c.in-Some.class number) in
    c.main_at.ensures.found there.0 there.1 ∙ main_is c.args.table.now c.args.main.now c.in-Some.class there.0 number there.1
