use Rattle.std.proofs.Common.{◌≡◌, take}
use Rattle.std.specs.List.{flat_map}
use Rattle.jv_meaning_library.specs.Closed.{descriptor_names}
use Rattle.jv_closed.specs.There.{are_there}
use Rattle.jv_closed.proofs.classes.has_method_types.Given as goal

abbrev pub invariant-loop-k : goal.invariant-loop-k
invariant-loop-k l = l.all ≡ are_there l.table (flat_map (λ m. descriptor_names m.descriptor) (take l.k l.class.class.methods))
