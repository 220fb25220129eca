use Rattle.std.proofs.Common.{◌≡◌, ◌++◌, take}
use Rattle.jv_meaning_world.specs.Above.{superclass_names}
use Rattle.jv_closed.specs.There.{are_there}
use Rattle.jv_closed.proofs.classes.has_supers.Given as goal

abbrev pub invariant-loop-k : goal.invariant-loop-k
invariant-loop-k l = l.all ≡ are_there l.table (superclass_names l.class.class.super_class ++ take l.k l.class.class.interfaces)
