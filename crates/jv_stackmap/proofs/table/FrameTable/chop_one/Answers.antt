use Rattle.std.proofs.lemmas.Grind.{common_steps}
use Rattle.std.proofs.Common.{arith}
use Rattle.jv_stackmap.proofs.table.FrameTable.chop_one.Goals as goal

pub invariant_of-self : goal.invariant_of-self
invariant_of-self c = grind (arith, common_steps)

pub overflow_sub-words : goal.overflow_sub-words
overflow_sub-words c = grind (arith, common_steps)
