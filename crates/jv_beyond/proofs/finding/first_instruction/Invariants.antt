use Rattle.jv_beyond.specs.Inside.Found.{NoneBelow}
use Rattle.jv_beyond.proofs.finding.first_instruction.Given as goal

abbrev pub invariant-loop-place : goal.invariant-loop-place
invariant-loop-place l = NoneBelow l.parts 0 l.place
