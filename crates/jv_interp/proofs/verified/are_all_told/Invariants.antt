use Rattle.jv_interp.specs.VerifiedClasses.{AreToldBefore}
use Rattle.jv_interp.proofs.verified.are_all_told.Given as goal

abbrev pub invariant-loop-class : goal.invariant-loop-class
invariant-loop-class l = AreToldBefore l.flags l.class
