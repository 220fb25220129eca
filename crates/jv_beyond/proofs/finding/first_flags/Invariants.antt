use Rattle.jv_beyond.specs.Inside.Found.{NoneBelow}
use Rattle.jv_beyond.proofs.finding.first_flags.Given as goal

abbrev pub invariant-loop-place : goal.invariant-loop-place
invariant-loop-place l = NoneBelow l.parts 3 l.place
