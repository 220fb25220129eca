use Rattle.jv_beyond.specs.Inside.Found.{NoneBelow}
use Rattle.jv_beyond.proofs.finding.first_constant.Given as goal

abbrev pub invariant-loop-index : goal.invariant-loop-index
invariant-loop-index l = NoneBelow l.parts 5 l.index
