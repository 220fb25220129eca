use Rattle.jv_interp.proofs.WithAbove.{told_next}
use Rattle.jv_interp.proofs.verified.are_all_told.Goals as goal

pub loop-class-preserved : goal.loop-class-preserved
loop-class-preserved c =
    told_next c.args.flags.now c.loop-class.class c.is_told.result c.if-not-is_told.false c.is_told.ensures c.loop-class.invariant
