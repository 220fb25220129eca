use Rattle.std.proofs.Common.{◌≡◌, map, take}
use Rattle.jv_meaning_world.specs.Numbers.{superclass_number}
use Rattle.jv_classes.proofs.table.direct_superclasses.Given as goal

abbrev pub invariant-loop-from : goal.invariant-loop-from
invariant-loop-from l = l.direct.items ≡ map (λ c. superclass_number l.classes c.class) (take l.from l.classes)
