use Rattle.jv_link_handlers.proofs.Asked.{Asking}
use Rattle.jv_link_handlers.proofs.tree.found.Given as goal

abbrev pub invariant-loop-left : goal.invariant-loop-left
invariant-loop-left l = Asking l.nodes l.place l.left l.offset l.rank

abbrev pub decreases-loop-left : goal.decreases-loop-left
decreases-loop-left l = l.left
