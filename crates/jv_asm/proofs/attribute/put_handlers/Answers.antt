use Rattle.std.proofs.lemmas.Grind.{common_steps}
use Rattle.std.proofs.Common.{arith}
use Rattle.jv_asm.proofs.attribute.put_handlers.Goals as goal

pub put_table-requires : goal.put_table-requires
put_table-requires c = grind (arith, common_steps)

pub returns : goal.returns
returns c = grind (arith, common_steps)
