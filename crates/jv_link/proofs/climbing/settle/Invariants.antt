use Rattle.std.proofs.Common.{length}
use Rattle.jv_link.specs.Inside.Climbing.{upward_of, numbered}
use Rattle.jv_link.proofs.Upward.{Waits}
use Rattle.jv_link.proofs.climbing.settle.Given as goal

abbrev pub invariant-loop-next : goal.invariant-loop-next
invariant-loop-next l = Waits l.table l.called l.waits l.fn.first l.next l.sure

abbrev pub decreases-loop-next : goal.decreases-loop-next
decreases-loop-next l = length (upward_of l.table (numbered l.table l.next))
