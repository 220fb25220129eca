use Rattle.jv_interp_objects.proofs.ClassNumbers.{is_other}
use Rattle.jv_interp_objects.proofs.types.is_at_or_below.Goals as goal

pub returns-else-class-other : goal.returns-else-class-other
returns-else-class-other c = λ l at to there.
    is_other c.args.table.now c.is_numbered.ensures c.args.class c.args.other l to at there c.if-class-other.false c.is_above.result
    (c.is_above.ensures l at to there)
