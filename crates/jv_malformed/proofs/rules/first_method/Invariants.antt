use Rattle.std.proofs.Common.{ℕ, ◌<◌}
use Rattle.std.specs.Prelude.{IfSome, slice_get}
use Rattle.jv_class_structure.specs.Parts.{methods_of}
use Rattle.jv_class.specs.Inside.Shown.{KeepsMethodShown}
use Rattle.jv_malformed.proofs.rules.first_method.Given as goal

abbrev pub invariant-loop-place : goal.invariant-loop-place
invariant-loop-place l =
    (k : ℕ) → k < l.place → IfSome (slice_get (methods_of l.parts) k) (KeepsMethodShown l.parts.constant_pool l.parts.major_version l.parts.access_flags)
