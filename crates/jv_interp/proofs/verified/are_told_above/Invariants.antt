use Rattle.jv_interp.proofs.WithAbove.{HoldsBefore}
use Rattle.jv_interp.proofs.verified.are_told_above.Given as goal

abbrev pub invariant-loop-other : goal.invariant-loop-other
invariant-loop-other l = HoldsBefore l.table l.flags l.class l.other
