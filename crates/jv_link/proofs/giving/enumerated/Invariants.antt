use Rattle.std.proofs.Common.{length}
use Rattle.jv_link.proofs.GivenSoFar.{GivesOn}
use Rattle.jv_link.proofs.giving.enumerated.Given as goal

abbrev pub invariant-loop-place : goal.invariant-loop-place
invariant-loop-place l = GivesOn l.table (length l.table) l.initial.given l.interfaces l.place l.given
