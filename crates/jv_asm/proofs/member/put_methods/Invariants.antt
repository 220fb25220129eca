use Rattle.std.proofs.Common.{◌≡◌, ◌++◌, length, take}
use Rattle.jv_format.specs.Format.{half}
use Rattle.std.specs.Prelude.{map}
use Rattle.std.specs.List.{flat_map}
use Rattle.jv_class_structure.specs.Structure.{method_bytes}
use Rattle.jv_asm.proofs.member.put_methods.Given as goal

abbrev pub invariant-loop-method : goal.invariant-loop-method
invariant-loop-method g l = l.out.items ≡ (l.fn.out.items ++ half.spelling (length l.methods)) ++ flat_map method_bytes (map g.M.Method.method (take l.method-index l.methods))
