use Rattle.std.proofs.Common.{◌≡◌, length}
use Rattle.jv_interp_objects.proofs.Filled.{IsFilling}
use Rattle.jv_interp_objects.proofs.units.fill.Given as goal

abbrev pub invariant-loop-rest : goal.invariant-loop-rest
invariant-loop-rest g l = record {
  filling : IsFilling l.text l.rest l.place l.address (g.S.Store.content l.initial.store) (g.S.Store.content l.store);
  room : g.S.Store.room_left l.store ≡ g.S.Store.room_left l.initial.store;
}

abbrev pub decreases-loop-rest : goal.decreases-loop-rest
decreases-loop-rest g l = length l.rest
