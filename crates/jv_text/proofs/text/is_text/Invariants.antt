use Rattle.std.proofs.Common.{ℕ, List, length}
use Rattle.jv_text.proofs.Texts.{Front}
use Rattle.jv_text.proofs.text.is_text.Given as goal

abbrev pub invariant-loop-rest : goal.invariant-loop-rest
invariant-loop-rest l = (units : List ℕ) × Front units l.bytes l.rest

abbrev pub decreases-loop-rest : goal.decreases-loop-rest
decreases-loop-rest l = length l.rest
