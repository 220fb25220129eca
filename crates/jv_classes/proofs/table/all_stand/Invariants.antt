use Rattle.std.proofs.Common.{◌≡◌, map, take}
use Rattle.jv_meaning_world.specs.Laws.Above.{stands_itself}
use Rattle.jv_classes.proofs.table.all_stand.Given as goal

abbrev pub invariant-loop-from : goal.invariant-loop-from
invariant-loop-from l = l.stand.items ≡ map (stands_itself l.classes) (take l.from l.classes)
