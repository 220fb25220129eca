use Rattle.std.proofs.Common.{ℕ, ◌*◌, ◌-◌, ◌≤◌, ◌<◌}
use Rattle.jv_verify_known.specs.Known.{number_at, FlowsAt}
use Rattle.jv_verify_known.proofs.flowing.written_flow.Given as goal

abbrev pub invariant-loop-found : goal.invariant-loop-found
invariant-loop-found l = (k : ℕ) → l.fn.from ≤ k → k < l.fn.to → k < l.block * 16 → l.fn.since < number_at l.writes k → FlowsAt l.types l.words l.frame.locals l.fn.place k

abbrev pub decreases-loop-found : goal.decreases-loop-found
decreases-loop-found l = l.end - l.block
