use Rattle.std.proofs.Common.{◌-◌}
use Rattle.jv_link_handlers.proofs.InPieces.{Counted}
use Rattle.jv_link_handlers.proofs.pieces.count_to.Given as goal

abbrev pub invariant-loop-low : goal.invariant-loop-low
invariant-loop-low l = Counted l.pieces l.fn.offset l.low l.high

abbrev pub decreases-loop-low : goal.decreases-loop-low
decreases-loop-low l = l.high - l.low
