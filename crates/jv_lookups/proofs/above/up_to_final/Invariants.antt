use Rattle.std.proofs.Common.{◌≤◌, ◌<◌, ℕ, length, get_or}
use Rattle.jv_lookups.specs.Inside.Fronts.{OverridesNoFinal}
use Rattle.jv_lookups.specs.Inside.Steps.{as_method}
use Rattle.jv_lookups.proofs.above.up_to_final.Given as goal

abbrev pub invariant-loop-look : goal.invariant-loop-look
invariant-loop-look l = record {
  within : l.end ≤ length l.chain;
  none_behind : (k : ℕ) → l.end ≤ k → k < length l.chain → OverridesNoFinal l.classes (as_method l.wanted.method.now) (get_or l.chain k 0);
}
