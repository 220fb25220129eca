use Rattle.std.proofs.lemmas.Grind.{common_steps}
use Rattle.std.proofs.Common.{arith}
use Rattle.jv_asm.proofs.Sizes.{item_small, item_next}
use Rattle.jv_asm.proofs.code.written.Goals as goal

pub put_item-requires : goal.put_item-requires
put_item-requires c =
    item_small c.args.items.now c.loop-item.item-index _ c.loop-item.out.items c.loop-item-test.true c.requires c.loop-item.invariant

pub loop-item-preserved : goal.loop-item-preserved
loop-item-preserved c =
    item_next c.args.items.now c.loop-item.item-index _ c.loop-item.out.items c.put_item.new.out.items c.loop-item-test.true c.loop-item.invariant
    c.in_ok-put_item.ensures

pub returns : goal.returns
returns c = grind (arith, common_steps)
