use Rattle.std.proofs.Common.{◌≡◌, ◌<◌, length, take}
use Rattle.jv_asm.specs.Items.{code_of_items}
use Rattle.jv_asm.proofs.code.items_size.Given as goal

abbrev pub invariant-loop-item : goal.invariant-loop-item
invariant-loop-item l = record { size : l.at ≡ length (code_of_items 0 (take l.item-index l.items)); small : l.at < 65536 }
