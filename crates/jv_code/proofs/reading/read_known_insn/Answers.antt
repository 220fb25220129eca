use Rattle.std.proofs.lemmas.Grind.{common_steps}
use Rattle.std.proofs.Common.{arith}
use Rattle.jv_code.proofs.reading.read_known_insn.Goals as goal

pub returns-in-171 : goal.returns-in-171
returns-in-171 c = grind (arith, common_steps)
