use Rattle.std.proofs.Common.{◌≡◌, ◌+◌, ◌*◌, ◌≤◌, length}
use Rattle.jv_interp_objects.specs.NestedBlocks.{nested_cost}
use Rattle.jv_interp_objects.proofs.Taking.{IsTaking}
use Rattle.jv_interp_objects.proofs.nested.+take_back_inner.Given as goal

abbrev pub invariant-loop-left : goal.invariant-loop-left
invariant-loop-left g l = record {
  taking : IsTaking l.slots l.counts l.size l.outer (g.S.Store.content l.initial.store) l.left (g.S.Store.content l.store);
  room :
      g.S.Store.room_left l.store + l.left * nested_cost l.slots l.counts
      ≡ g.S.Store.room_left l.initial.store + l.size * nested_cost l.slots l.counts;
  within : l.left ≤ l.size;
}

abbrev pub decreases-loop-left : goal.decreases-loop-left
decreases-loop-left g l = l.left

abbrev pub decreases-take_back_inner : goal.decreases-take_back_inner
decreases-take_back_inner g l = length l.counts.now
