use Rattle.std.proofs.Common.{sym, ◌∙◌}
use Rattle.jv_link_cache.proofs.CatchTypes.{of_other}
use Rattle.jv_link_cache.proofs.ranks.is_of.Goals as goal

pub returns-else-class-other : goal.returns-else-class-other
returns-else-class-other c = λ l at to there.
    c.is_above.ensures l at to there
    ∙ sym (of_other c.args.table.now c.args.class c.args.other l to c.is_numbered.ensures at there c.if-class-other.false)
