use Rattle.std.proofs.Common.{take}
use Rattle.std.specs.List.{AllZip}
use Rattle.jv_class_structure.specs.Parts.{methods_of}
use Rattle.jv_class.specs.Inside.Reading.{IsMethodKey}
use Rattle.jv_class.proofs.alike.method_keys.Given as goal

abbrev pub invariant-loop-place : goal.invariant-loop-place
invariant-loop-place l = AllZip (IsMethodKey l.parts.constant_pool) (take l.place (methods_of l.parts)) l.keys.items
