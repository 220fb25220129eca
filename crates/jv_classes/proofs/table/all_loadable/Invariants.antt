use Rattle.std.proofs.Common.{◌≡◌, map, take}
use Rattle.jv_meaning_world.specs.Verdicts.{is_loadable}
use Rattle.jv_classes.proofs.table.all_loadable.Given as goal

abbrev pub invariant-loop-number : goal.invariant-loop-number
invariant-loop-number l = l.loadable.items ≡ map (is_loadable l.classes) (take l.number l.classes)
