use Rattle.std.proofs.Common.{◌≡◌, take}
use Rattle.jv_asm.specs.Items.{code_of_items}
use Rattle.jv_asm.proofs.code.written.Given as goal

abbrev pub invariant-loop-item : goal.invariant-loop-item
invariant-loop-item l = l.out.items ≡ code_of_items 0 (take l.item-index l.items)
