use Rattle.std.proofs.lemmas.Grind.{common_steps}
use Rattle.std.proofs.Common.{arith}
use Rattle.jv_asm.proofs.member.methods_fit.Goals as goal

pub returns-then-methods-lt65536 : goal.returns-then-methods-lt65536
returns-then-methods-lt65536 g c = grind (arith, common_steps)

pub returns-else-methods-lt65536 : goal.returns-else-methods-lt65536
returns-else-methods-lt65536 g c = grind (arith, common_steps)
