use Rattle.std.proofs.Common.{◌≤◌}
use Rattle.jv_host.proofs.host.Host.progress.Given as goal

-- no more of the guests so far run than there are
abbrev pub invariant-loop-id : goal.invariant-loop-id
invariant-loop-id g l = l.running ≤ l.id
