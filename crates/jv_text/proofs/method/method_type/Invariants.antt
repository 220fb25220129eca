use Rattle.std.proofs.Common.{length}
use Rattle.std.specs.Prelude.{map}
use Rattle.jv_text.specs.Seen.{seen_field_type}
use Rattle.jv_text.proofs.Methods.{Front}
use Rattle.jv_text.proofs.method.method_type.Given as goal

abbrev pub invariant-loop-rest : goal.invariant-loop-rest
invariant-loop-rest l = Front (map seen_field_type l.parameters.items) l.slots l.text l.rest

abbrev pub decreases-loop-rest : goal.decreases-loop-rest
decreases-loop-rest l = length l.rest
