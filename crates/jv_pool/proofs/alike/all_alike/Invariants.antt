use Rattle.jv_pool.specs.Inside.Alike.{AlikeBelow, AreFirsts}
use Rattle.jv_pool.proofs.alike.all_alike.Given as goal

abbrev pub invariant-loop-index : goal.invariant-loop-index
invariant-loop-index l = record { below : AlikeBelow l.table l.index l.alike.items; firsts : AreFirsts l.table l.index l.firsts }
