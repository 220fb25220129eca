use Rattle.std.proofs.Common.{ℕ, List}
use Rattle.jv_link_cache.specs.Inside.Each.{Each}
use Rattle.jv_link_cache.specs.Inside.Handlers.{AreKnownAt}
use Rattle.jv_link_cache.proofs.handlers.handlers_without.Given as goal

abbrev pub invariant-loop-member : goal.invariant-loop-member
invariant-loop-member l = (ranks : List ℕ) → Each (AreKnownAt l.table ranks l.class) l.member l.methods.items
