use Rattle.std.proofs.Common.{length}
use Rattle.jv_text.proofs.Texts.{Front}
use Rattle.jv_text.proofs.text.decode.Given as goal

abbrev pub invariant-loop-rest : goal.invariant-loop-rest
invariant-loop-rest l = Front l.units.items l.bytes l.rest

abbrev pub decreases-loop-rest : goal.decreases-loop-rest
decreases-loop-rest l = length l.rest
