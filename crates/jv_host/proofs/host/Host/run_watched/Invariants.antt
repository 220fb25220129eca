use Rattle.jv_host.specs.Calls.{Rounds}
use Rattle.jv_host.proofs.host.Host.run_watched.Given as goal

-- so many rounds led here
abbrev pub invariant-loop-round : goal.invariant-loop-round
invariant-loop-round g l = Rounds l.fn.quantum l.round l.fn.self l.self
