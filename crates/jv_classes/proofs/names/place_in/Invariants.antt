use Rattle.std.proofs.Common.{length}
use Rattle.jv_classes.specs.Inside.KeptNames.{texts_of}
use Rattle.jv_classes.proofs.LinkedNames.{IsOnWay}
use Rattle.jv_classes.proofs.names.place_in.Given as goal

abbrev pub invariant-loop-end : goal.invariant-loop-end
invariant-loop-end l = IsOnWay l.seed (length l.ends) (texts_of l.names) l.name l.slot l.end

abbrev pub decreases-loop-end : goal.decreases-loop-end
decreases-loop-end l = l.end
