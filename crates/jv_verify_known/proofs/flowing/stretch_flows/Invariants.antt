use Rattle.std.proofs.Common.{◌≤◌}
use Rattle.jv_verify_known.specs.Inside.Flowing.{FlowToStretch}
use Rattle.jv_verify_known.proofs.flowing.stretch_flows.Given as goal

abbrev pub invariant-loop-at : goal.invariant-loop-at
invariant-loop-at l = record {
  least : l.fn.from ≤ l.at;
  within : l.at ≤ l.fn.to;
  all : FlowToStretch l.types l.frame.locals l.stretch l.at l.fn.to;
}

abbrev pub decreases-loop-at : goal.decreases-loop-at
decreases-loop-at l = l.at
