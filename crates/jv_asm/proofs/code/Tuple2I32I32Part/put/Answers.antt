use Rattle.std.proofs.Common.{arith}
use Rattle.std.proofs.lemmas.Grind.{common_steps}
use Rattle.jv_asm.proofs.code.Tuple2I32I32Part.put.Goals as goal

pub returns : goal.returns
returns c = grind (arith, common_steps)
