use Rattle.std.proofs.Common.{ℕ, List}
use Rattle.jv_classes.specs.Inside.Known.{AreKnown as AreTextsKnown}
use Rattle.jv_link_cache.specs.Inside.Each.{Each}
use Rattle.jv_link_cache.specs.Inside.Handlers.{AreKnownAt}
use Rattle.jv_link_cache.specs.Inside.Ranks.{SpansStand}
use Rattle.jv_link_cache.proofs.handlers.handlers_with.Given as goal

abbrev pub invariant-loop-member : goal.invariant-loop-member
invariant-loop-member l = record {
  known : AreTextsKnown l.table l.pool l.known.items;
  methods : (ranks : List ℕ) → SpansStand l.table ranks l.spans → Each (AreKnownAt l.table ranks l.class) l.member l.methods.items;
}
