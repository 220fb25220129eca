use Rattle.jv_host.specs.Calls.{HadTurns}
use Rattle.jv_host.proofs.host.Host.round.Given as goal

-- the guests so far had a turn each, and no other guest changed
abbrev pub invariant-loop-id : goal.invariant-loop-id
invariant-loop-id g l = HadTurns l.fn.quantum l.id l.fn.self l.self
