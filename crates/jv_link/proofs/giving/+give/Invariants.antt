use Rattle.std.proofs.Common.{◌-◌}
use Rattle.jv_link.proofs.GivenSoFar.{GivesOn}
use Rattle.jv_link.proofs.giving.+give.Given as goal

abbrev pub decreases-give : goal.decreases-give
decreases-give l = l.steps

abbrev pub invariant-loop-place : goal.invariant-loop-place
invariant-loop-place l = GivesOn l.table (l.steps - 1) l.initial.given l.interfaces l.place l.given
