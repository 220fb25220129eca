use Rattle.jv_interp_control.proofs.MovedDown.{MovedSoFar}
use Rattle.jv_interp_control.proofs.leaving.move_down.Given as goal

abbrev pub invariant-loop-place : goal.invariant-loop-place
invariant-loop-place l = MovedSoFar l.from l.to l.place l.fn.words l.words
