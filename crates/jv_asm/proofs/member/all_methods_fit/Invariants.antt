use Rattle.std.proofs.Common.{◌≡◌, true, take}
use Rattle.std.specs.Prelude.{map}
use Rattle.std.specs.List.{list_all}
use Rattle.jv_class_structure.specs.Structure.{method_fits}
use Rattle.jv_asm.proofs.member.all_methods_fit.Given as goal

abbrev pub invariant-loop-method : goal.invariant-loop-method
invariant-loop-method g l = list_all method_fits (map g.M.Method.method (take l.method-index l.methods)) ≡ true
