use Rattle.std.proofs.Common.{◌≤◌, min}
use Rattle.jv_verify_known.specs.Inside.Flowing.{FlowBetween}
use Rattle.jv_verify_known.proofs.flowing.words_flow.Given as goal

abbrev pub invariant-loop-at : goal.invariant-loop-at
invariant-loop-at l = record {
  least : min l.fn.from l.fn.to ≤ l.at;
  within : l.at ≤ l.fn.to;
  all : FlowBetween l.types l.words l.frame.locals l.fn.place l.at l.fn.to;
}

abbrev pub decreases-loop-at : goal.decreases-loop-at
decreases-loop-at l = l.at
