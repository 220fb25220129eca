use Rattle.std.proofs.Common.{◌≡◌, List, None, take}
use Rattle.std.specs.List.{find}
use Rattle.jv_format.specs.Handlers.{handlers_of}
use Rattle.jv_pool.specs.Constants.{Entry}
use Rattle.jv_meaning_world.specs.Numbers.{HoldsAtNumber}
use Rattle.jv_link_cache.specs.Handlers.{takes}
use Rattle.jv_link_cache.specs.Inside.Caught.{AreCaught}
use Rattle.jv_link_cache.proofs.handlers.first_of_all.Given as goal

abbrev pub invariant-loop-place : goal.invariant-loop-place
invariant-loop-place l =
    (pool : List Entry) → AreCaught l.table pool (handlers_of l.handlers) l.caught
    → HoldsAtNumber l.table l.class (λ thrown. find (takes l.table pool thrown l.offset) (take l.place (handlers_of l.handlers)) ≡ None)
