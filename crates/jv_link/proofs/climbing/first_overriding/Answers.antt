use Rattle.std.proofs.Common.{◌∙◌, sym}
use Rattle.jv_link.proofs.Running.{run_is, none_runs}
use Rattle.jv_link.proofs.climbing.first_overriding.Goals as goal

pub returns-then-not-is_instance-clause-found : goal.returns-then-not-is_instance-clause-found
returns-then-not-is_instance-clause-found c = λ l at e at_e. none_runs c.args.table.now e l (sym (c.is_instance.ensures e at_e) ∙ c.if-not-is_instance.true)

pub returns-clause-found : goal.returns-clause-found
returns-clause-found c = λ l at e at_e.
    c.climb.ensures.found l at e at_e
    ∙ run_is c.overriding_upward.ensures c.above_by_ways.ensures c.above_is_transitive.ensures c.args.table.now e l
    (sym (c.is_instance.ensures e at_e) ∙ c.if-not-is_instance.false) (c.requires.straight l at)
