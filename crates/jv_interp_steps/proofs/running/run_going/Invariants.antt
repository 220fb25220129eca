use Rattle.std.proofs.Common.{◌≡◌, ◌+◌, ◌-◌, ◌≤◌}
use Rattle.jv_link_cache.specs.Linked.{IsLinked}
use Rattle.jv_interp_control.specs.Standing.{kept}
use Rattle.jv_interp_steps.specs.Running.{RanOnTo}
use Rattle.jv_interp_steps.proofs.running.run_going.Given as goal

abbrev pub invariant-loop-left : goal.invariant-loop-left
invariant-loop-left g l = record {
  few : l.left ≤ l.n;
  ran :
      RanOnTo (l.n - l.left) l.classes.world l.verified l.texts.names l.fn.at
      (kept l.fn.frames l.control l.fn.held (g.S.Store.content l.fn.store)) l.at (kept l.frames l.control l.held (g.S.Store.content l.store));
  linked : IsLinked l.classes.world l.linked;
  fewer : l.held.cells ≤ l.fn.held.cells;
  still : l.left ≡ l.n → (l.held ≡ l.fn.held) × (g.S.Store.content l.store ≡ g.S.Store.content l.fn.store);
  room : g.S.Store.room_left l.fn.store + l.held.cells ≡ g.S.Store.room_left l.store + l.fn.held.cells;
}

abbrev pub decreases-loop-left : goal.decreases-loop-left
decreases-loop-left g l = l.left
