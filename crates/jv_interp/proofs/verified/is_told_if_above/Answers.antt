use Rattle.std.proofs.Common.{sym, ◌∙◌}
use Rattle.jv_meaning_world.specs.Above.{is_above}
use Rattle.jv_interp.proofs.WithAbove.{told_if}
use Rattle.jv_interp.proofs.verified.is_told_if_above.Goals as goal

pub returns-else-not-is_above : goal.returns-else-not-is_above
returns-else-not-is_above c = λ test tells l at to at_to.
    told_if (is_above c.args.table.now to.class.name l.class) (test to) c.is_told.result (c.is_told.ensures (test to) (tells c.args.other to at_to))
    (sym (c.is_above.ensures l at to at_to) ∙ c.if-not-is_above.false)
