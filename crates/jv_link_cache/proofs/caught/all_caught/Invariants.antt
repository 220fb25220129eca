use Rattle.jv_format.specs.Handlers.{handlers_of}
use Rattle.jv_classes.specs.Inside.Known.{AreKnown}
use Rattle.jv_link_cache.specs.Inside.Caught.{IsCaughtAt}
use Rattle.jv_link_cache.specs.Inside.Each.{Each}
use Rattle.jv_link_cache.proofs.caught.all_caught.Given as goal

abbrev pub invariant-loop-place : goal.invariant-loop-place
invariant-loop-place l = record {
  caught : Each (IsCaughtAt l.table l.pool (handlers_of l.handlers)) l.place l.caught.items;
  known : AreKnown l.table l.pool l.known.items;
}
