use Rattle.std.proofs.Common.{arith}
use Rattle.jv_lookups.proofs.Looking.{named_more}
use Rattle.jv_lookups.proofs.finals.are_named.Goals as goal

pub loop-place-preserved : goal.loop-place-preserved
loop-place-preserved c =
    named_more c.args.classes.now c.args.chain.now c.loop-place.place-index c.index-classes-place.result c.requires (omega arith) c.index-classes-place.is c.loop-place.invariant c.is_named.ensures
