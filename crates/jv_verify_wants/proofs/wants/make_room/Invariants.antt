use Rattle.std.proofs.Common.{◌≡◌, ℕ, ◌-◌, ◌+◌, length, map}
use Rattle.jv_verify_types.specs.Typed.{TypeWorld}
use Rattle.jv_verify_wants.specs.Wanted.{wanted_at}
use Rattle.jv_verify_wants.specs.Inside.Allowed.{kept_of, AreAllowed}
use Rattle.jv_verify_wants.proofs.wants.make_room.Given as goal

abbrev pub invariant-loop-alloc : goal.invariant-loop-alloc
invariant-loop-alloc l = record {
  same : (p : ℕ) → wanted_at (map kept_of l.variables.items) p ≡ wanted_at (map kept_of l.fn.variables.items) p;
  allowed : (types : TypeWorld) (offset : ℕ) → AreAllowed types offset (map kept_of l.fn.variables.items) → AreAllowed types offset (map kept_of l.variables.items);
}

abbrev pub decreases-loop-alloc : goal.decreases-loop-alloc
decreases-loop-alloc l = l.fn.place + 1 - length l.variables.items
