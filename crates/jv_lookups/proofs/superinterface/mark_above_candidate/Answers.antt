use Rattle.std.proofs.Common.{◌∙◌, sym, ap}
use Rattle.std.specs.Prelude.{is_some}
use Rattle.jv_lookups.proofs.MarkedAbove.{by_candidate, by_none}
use Rattle.jv_lookups.proofs.Tests.{some_stands}
use Rattle.jv_lookups.proofs.superinterface.mark_above_candidate.Goals as goal

pub returns-then-is_some-clause-marked : goal.returns-then-is_some-clause-marked
returns-then-is_some-clause-marked c = λ to l at by at_by m at_m.
    c.mark_others_above.ensures.marked to m at_m by at_by
    ∙ by_candidate _ _ _ (sym c.if-is_some.true ∙
    (c.is_some.ensures ∙ (some_stands c.args.table.now c.candidate.result c.candidate.ensures.place ∙
    ap is_some (c.candidate.ensures.found l at m at_m))))

pub returns-else-is_some-clause-marked : goal.returns-else-is_some-clause-marked
returns-else-is_some-clause-marked c = λ to l at by at_by m at_m.
    by_none _ _ _ (sym c.if-is_some.false ∙ (c.is_some.ensures ∙ (some_stands c.args.table.now c.candidate.result c.candidate.ensures.place ∙ ap is_some (c.candidate.ensures.found l at m at_m))))
