use Rattle.std.proofs.Common.{◌≡◌, take}
use Rattle.std.specs.List.{list_all}
use Rattle.jv_meaning_library.specs.Closed.{names_classes_of}
use Rattle.jv_closed.proofs.classes.are_closed.Given as goal

abbrev pub invariant-loop-k : goal.invariant-loop-k
invariant-loop-k l = l.all ≡ list_all (λ x. names_classes_of l.table x.class) (take l.k l.classes)
