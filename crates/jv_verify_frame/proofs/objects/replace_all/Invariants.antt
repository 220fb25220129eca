use Rattle.std.proofs.Common.{◌≡◌, map, take, drop, ◌++◌}
use Rattle.jv_verify_frame.specs.Inside.Swapped.{swapped}
use Rattle.jv_verify_frame.proofs.objects.replace_all.Given as goal

abbrev pub invariant-loop-item : goal.invariant-loop-item
invariant-loop-item l = l.items ≡ map (swapped l.object l.by) (take l.item-index l.fn.items) ++ drop l.item-index l.fn.items
