use Rattle.std.proofs.Common.{arith}
use Rattle.jv_link_cache.proofs.Ranked.{all_told}
use Rattle.jv_link_cache.proofs.ranks.span_of.Goals as goal

pub returns : goal.returns
returns c = all_told _ _ _ _ _ (omega arith) c.loop-other.invariant
