use Rattle.std.proofs.Common.{ℕ, ◌<◌, ◌≤◌}
use Rattle.jv_class.specs.Inside.Reading.{IsSupportedAt}
use Rattle.jv_class.proofs.supported.are_supported_constants.Given as goal

abbrev pub invariant-loop-index : goal.invariant-loop-index
invariant-loop-index l = (n : ℕ) → 1 ≤ n → n < l.index → IsSupportedAt l.pool n
