use Rattle.std.proofs.Common.{◌≡◌, ℕ, List, length}
use Rattle.std.specs.List.{list_any}
use Rattle.jv_text.specs.declared.descriptor.FieldTypeOf.{FieldTypeOf}
use Rattle.jv_text.specs.Descriptor.{is_floating}
use Rattle.jv_text.proofs.Methods.{Front}
use Rattle.jv_text.proofs.method.method_shape.Given as goal

abbrev pub invariant-loop-rest : goal.invariant-loop-rest
invariant-loop-rest l = (before : List (FieldTypeOf (List ℕ))) × Front before l.slots l.text l.rest × (l.floating ≡ list_any is_floating before)

abbrev pub decreases-loop-rest : goal.decreases-loop-rest
decreases-loop-rest l = length l.rest
