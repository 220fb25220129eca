use Rattle.std.proofs.lemmas.Grind.{common_steps}
use Rattle.std.proofs.Common.{arith}
use Rattle.jv_asm_builder.proofs.code_builder.CodeBuilder.place.Goals as goal

pub returns-else-label-len : goal.returns-else-label-len
returns-else-label-len c = grind (arith, common_steps)
