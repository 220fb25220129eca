use Rattle.std.proofs.Common.{ℕ, List}
use Rattle.jv_format.specs.Handlers.{handlers_of}
use Rattle.jv_pool.specs.Constants.{Entry}
use Rattle.jv_meaning_world.specs.World.{World}
use Rattle.jv_link_cache.specs.Inside.Caught.{AreCaught}
use Rattle.jv_link_cache.specs.Inside.Ranks.{SpansStand}
use Rattle.jv_link_cache.specs.Inside.Reaches.{AreReaches}
use Rattle.jv_link_cache.proofs.reaches.reaches_of.Given as goal

abbrev pub invariant-loop-place : goal.invariant-loop-place
invariant-loop-place l =
    (world : World) (ranks : List ℕ) (pool : List Entry) → SpansStand world ranks l.spans → AreCaught world pool (handlers_of l.handlers) l.caught
    → AreReaches world ranks pool (handlers_of l.handlers) l.place l.reaches.items
