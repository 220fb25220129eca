use Rattle.std.proofs.Common.{◌≡◌, ◌+◌, ◌-◌, ◌*◌, ◌≤◌, length, drop}
use Rattle.jv_interp_objects.specs.NestedBlocks.{nested_cost, outer_slots, inner_size}
use Rattle.jv_interp_objects.proofs.Following.{first_of}
use Rattle.jv_interp_objects.proofs.Nesting.{Nesting}
use Rattle.jv_interp_objects.proofs.nested.+make_nested.Given as goal

abbrev pub invariant-loop-made : goal.invariant-loop-made
invariant-loop-made g l = record {
  nesting : Nesting l.slots l.counts l.word l.outer l.made (g.S.Store.content l.fn.store) (g.S.Store.content l.store);
  room :
      g.S.Store.room_left l.store + (2 + first_of l.counts * outer_slots l.slots l.counts) + l.made * nested_cost l.slots (drop 1 l.counts)
      ≡ g.S.Store.room_left l.fn.store;
  within : l.made ≤ l.size;
  size_is : l.size ≡ inner_size l.counts;
}

abbrev pub decreases-loop-made : goal.decreases-loop-made
decreases-loop-made g l = l.size - l.made

abbrev pub decreases-make_nested : goal.decreases-make_nested
decreases-make_nested g l = length l.counts.now
