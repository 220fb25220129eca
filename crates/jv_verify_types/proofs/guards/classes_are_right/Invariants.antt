use Rattle.std.proofs.Common.{◌≡◌, ℕ, ◌<◌, false}
use Rattle.jv_meaning_world.specs.Numbers.{HoldsAtNumber}
use Rattle.jv_verify_types.specs.Inside.Guarded.{has_wrongly_protected}
use Rattle.jv_verify_types.proofs.guards.classes_are_right.Given as goal

abbrev pub invariant-loop-number : goal.invariant-loop-number
invariant-loop-number l = (k : ℕ) → k < l.number → HoldsAtNumber l.table k (λ c. has_wrongly_protected c.class ≡ false)
