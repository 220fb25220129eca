use Rattle.std.proofs.Common.{◌≡◌, length}
use Rattle.jv_interp.proofs.WithAbove.{ToldBefore}
use Rattle.jv_interp.proofs.verified.told_with_above.Given as goal

abbrev pub invariant-loop-class : goal.invariant-loop-class
invariant-loop-class l = (length l.all.items ≡ l.class) × ToldBefore l.table l.flags l.class l.all.items
