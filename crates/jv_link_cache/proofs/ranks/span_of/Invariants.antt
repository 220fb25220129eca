use Rattle.std.proofs.Common.{ℕ, ◌<◌}
use Rattle.jv_link_cache.specs.Inside.Ranks.{IsTold}
use Rattle.jv_link_cache.proofs.ranks.span_of.Given as goal

abbrev pub invariant-loop-other : goal.invariant-loop-other
invariant-loop-other l = (k : ℕ) → k < l.other → IsTold l.table l.ranks.ranks.items l.span l.class k
