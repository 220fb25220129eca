use Rattle.jv_link_cache.specs.Inside.Ranks.{AreSpans}
use Rattle.jv_link_cache.proofs.ranks.spans_of.Given as goal

abbrev pub invariant-loop-class : goal.invariant-loop-class
invariant-loop-class l = AreSpans l.table l.ranks.ranks.items l.class l.spans.items
