use Rattle.std.proofs.Common.{◌+◌, ◌-◌, length}
use Rattle.jv_link_handlers.proofs.Merging.{Merging}
use Rattle.jv_link_handlers.proofs.pieces.merged.Given as goal

abbrev pub invariant-loop-left : goal.invariant-loop-left
invariant-loop-left l = Merging l.one l.other l.made.items l.left.0 l.left.1 l.right.0 l.right.1 l.start

abbrev pub decreases-loop-left : goal.decreases-loop-left
decreases-loop-left l = (length l.one - l.left.0) + (length l.other - l.right.0)
