use Rattle.std.proofs.Common.{ℕ, ◌<◌}
use Rattle.std.specs.Prelude.{IfSome, slice_get}
use Rattle.jv_class_structure.specs.Parts.{fields_of}
use Rattle.jv_class.specs.Inside.Shown.{KeepsFieldShown}
use Rattle.jv_malformed.proofs.rules.first_field.Given as goal

abbrev pub invariant-loop-place : goal.invariant-loop-place
invariant-loop-place l = (k : ℕ) → k < l.place → IfSome (slice_get (fields_of l.parts) k) (KeepsFieldShown l.parts.constant_pool l.parts.access_flags)
