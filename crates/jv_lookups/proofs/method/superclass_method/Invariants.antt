use Rattle.jv_meaning_world.specs.LookUps.{method_in}
use Rattle.jv_lookups.proofs.Found.{IsLeft}
use Rattle.jv_lookups.proofs.method.superclass_method.Given as goal

abbrev pub invariant-loop-superclass : goal.invariant-loop-superclass
invariant-loop-superclass l = IsLeft l.table (method_in l.name l.descriptor) l.superclass-items l.superclass-index
