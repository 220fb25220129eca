use Rattle.std.proofs.Common.{◌-◌}
use Rattle.jv_malformed.proofs.Walking.{Walked}
use Rattle.jv_malformed.proofs.pool.missing_constant.Given as goal

abbrev pub invariant-loop-index : goal.invariant-loop-index
invariant-loop-index l = Walked l.count l.index l.rest l.bytes

abbrev pub decreases-loop-index : goal.decreases-loop-index
decreases-loop-index l = l.count - l.index
