use Rattle.std.proofs.Common.{ℕ, List}
use Rattle.jv_link_cache.specs.Inside.Handlers.{AreHandlers}
use Rattle.jv_link_cache.specs.Inside.Ranks.{SpansStand}
use Rattle.jv_link_cache.proofs.handlers.all_handlers.Given as goal

abbrev pub invariant-loop-class : goal.invariant-loop-class
invariant-loop-class l = (ranks : List ℕ) → SpansStand l.table ranks l.spans → AreHandlers l.table ranks l.class l.rows.items
