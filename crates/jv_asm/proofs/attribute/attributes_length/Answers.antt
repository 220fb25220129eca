use Rattle.std.proofs.lemmas.Grind.{common_steps}
use Rattle.std.proofs.Common.{arith}
use Rattle.jv_asm.specs.Description.{described_attribute}
use Rattle.jv_asm.proofs.Lengths.{attributes_more}
use Rattle.jv_asm.proofs.attribute.attributes_length.Goals as goal

pub loop-attribute-preserved : goal.loop-attribute-preserved
loop-attribute-preserved c =
    let next = attributes_more described_attribute c.args.attributes.now c.loop-attribute.attribute-index _ c.loop-attribute.total c.loop-attribute-test.true
    c.requires c.loop-attribute.invariant.sum c.loop-attribute.invariant.small in
    record { sum = next.0; small = next.1 }

pub overflow_add-total-in-loop-attribute : goal.overflow_add-total-in-loop-attribute
overflow_add-total-in-loop-attribute c = grind (arith, common_steps)

pub returns-clause-small : goal.returns-clause-small
returns-clause-small c = grind (arith, common_steps)

pub returns-clause-length : goal.returns-clause-length
returns-clause-length c = grind (arith, common_steps)
