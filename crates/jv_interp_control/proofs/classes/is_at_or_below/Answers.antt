use Rattle.std.proofs.Common.{nat_eq, sym, ◌∙◌}
use Rattle.jv_meaning_world.specs.Above.{is_above}
use Rattle.jv_interp_control.proofs.ClassesAbove.{either, unlike, by_numbers}
use Rattle.jv_interp_control.proofs.classes.is_at_or_below.Goals as goal

pub returns-else-class-other : goal.returns-else-class-other
returns-else-class-other c = λ l at to there.
    let world = c.args.table.now in
    c.is_above.ensures l at to there
    ∙ sym
    (by_numbers world c.is_numbered.ensures c.args.class l at c.args.other to there
    ∙ either (nat_eq c.args.class c.args.other) (is_above world to.class.name l.class) (unlike c.args.class c.args.other c.if-class-other.false))
