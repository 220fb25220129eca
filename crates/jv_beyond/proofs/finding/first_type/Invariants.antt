use Rattle.jv_beyond.specs.Inside.Found.{NoneBelow}
use Rattle.jv_beyond.proofs.finding.first_type.Given as goal

abbrev pub invariant-loop-place : goal.invariant-loop-place
invariant-loop-place l = NoneBelow l.parts 4 l.place
