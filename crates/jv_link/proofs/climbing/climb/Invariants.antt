use Rattle.std.proofs.Common.{length}
use Rattle.jv_link.specs.Inside.Climbing.{upward_of, numbered}
use Rattle.jv_link.proofs.Upward.{Climbs}
use Rattle.jv_link.proofs.climbing.climb.Given as goal

abbrev pub invariant-loop-next : goal.invariant-loop-next
invariant-loop-next l = Climbs l.table l.from l.called l.next

abbrev pub decreases-loop-next : goal.decreases-loop-next
decreases-loop-next l = length (upward_of l.table (numbered l.table l.next))
