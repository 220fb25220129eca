use Rattle.std.proofs.Common.{◌≤◌}
use Rattle.jv_verify_known.specs.Inside.Flowing.{FlowBetween}
use Rattle.jv_verify_known.proofs.known.Known.pieces_flow.Given as goal

abbrev pub invariant-loop-to : goal.invariant-loop-to
invariant-loop-to l = record {
  within : l.to ≤ l.fn.count;
  all : FlowBetween l.types l.self.words l.frame.locals l.fn.place l.to l.fn.count;
}

abbrev pub decreases-loop-to : goal.decreases-loop-to
decreases-loop-to l = l.to
