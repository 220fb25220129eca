use Rattle.std.proofs.lemmas.Grind.{common_steps}
use Rattle.std.proofs.Common.{arith}
use Rattle.jv_asm.proofs.Sizes.{size_next, size_over}
use Rattle.jv_asm.proofs.code.items_size.Goals as goal

pub returns-then-at-gt65535 : goal.returns-then-at-gt65535
returns-then-at-gt65535 c =
    let over = size_over c.args.items.now c.loop-item.item-index _ c.loop-item.at c.item_size-at.result c.loop-item-test.true c.loop-item.invariant.size
    c.item_size-at.ensures.size c.if-at-gt65535.true in
    record { few = λ h. absurd (omega arith); many = λ h. over }

pub loop-item-preserved : goal.loop-item-preserved
loop-item-preserved c = record {
  size = size_next c.args.items.now c.loop-item.item-index _ c.loop-item.at c.item_size-at.result c.loop-item-test.true c.loop-item.invariant.size
      c.item_size-at.ensures.size c.if-at-gt65535.false;
  small = omega arith;
}

pub returns : goal.returns
returns c = grind (arith, common_steps)
