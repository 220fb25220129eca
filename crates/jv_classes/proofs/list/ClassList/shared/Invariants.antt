use Rattle.std.proofs.Common.{◌≡◌, take}
use Rattle.jv_classes.proofs.list.ClassList.shared.Given as goal

abbrev pub invariant-loop-class : goal.invariant-loop-class
invariant-loop-class l = l.list ≡ take l.class-index l.class-items
