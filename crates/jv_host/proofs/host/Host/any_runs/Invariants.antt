use Rattle.std.proofs.Common.{ℕ, ◌<◌}
use Rattle.jv_host.specs.Calls.{OverAt}
use Rattle.jv_host.proofs.host.Host.any_runs.Given as goal

-- the guests so far have ended
abbrev pub invariant-loop-id : goal.invariant-loop-id
invariant-loop-id g l = (k : ℕ) → k < l.id → OverAt l.self k
