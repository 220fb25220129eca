use Rattle.jv_lookups.proofs.Next.{GoesOn}
use Rattle.jv_lookups.proofs.searching.+go_on.Given as goal

abbrev pub decreases-go_on : goal.decreases-go_on
decreases-go_on l = l.deeper

abbrev pub invariant-loop-place : goal.invariant-loop-place
invariant-loop-place l = GoesOn l.table l.deeper l.initial.begun l.interfaces l.place l.begun
