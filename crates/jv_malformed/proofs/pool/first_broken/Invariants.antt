use Rattle.std.proofs.Common.{ℕ, ◌<◌}
use Rattle.jv_pool.specs.Constants.{at_index}
use Rattle.jv_pool.specs.Inside.Known.{IsKept}
use Rattle.jv_malformed.proofs.pool.first_broken.Given as goal

abbrev pub invariant-loop-index : goal.invariant-loop-index
invariant-loop-index l = (k : ℕ) → k < l.index → IsKept l.known (at_index l.known k)
