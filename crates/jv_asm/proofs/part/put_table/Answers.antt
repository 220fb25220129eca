use Rattle.std.proofs.lemmas.Grind.{common_steps}
use Rattle.std.proofs.Common.{arith}
use Rattle.jv_asm.proofs.part.put_table.Goals as goal

pub overflow_cast-items : goal.overflow_cast-items
overflow_cast-items g c = grind (arith, common_steps)

pub returns : goal.returns
returns g c = grind (arith, common_steps)
