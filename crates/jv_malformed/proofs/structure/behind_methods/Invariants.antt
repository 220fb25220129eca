use Rattle.jv_class_structure.specs.Structure.{method_bytes}
use Rattle.jv_malformed.specs.Part.{method_stands}
use Rattle.jv_malformed.proofs.Passing.{Passed}
use Rattle.jv_malformed.proofs.structure.behind_methods.Given as goal

abbrev pub invariant-loop-place : goal.invariant-loop-place
invariant-loop-place l = Passed method_bytes (method_stands l.pool) l.count l.place l.rest l.bytes
