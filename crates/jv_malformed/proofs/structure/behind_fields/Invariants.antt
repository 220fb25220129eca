use Rattle.jv_class_structure.specs.Structure.{field_bytes}
use Rattle.jv_malformed.specs.Part.{field_stands}
use Rattle.jv_malformed.proofs.Passing.{Passed}
use Rattle.jv_malformed.proofs.structure.behind_fields.Given as goal

abbrev pub invariant-loop-place : goal.invariant-loop-place
invariant-loop-place l = Passed field_bytes (field_stands l.pool) l.count l.place l.rest l.bytes
