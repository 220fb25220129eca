use Rattle.std.proofs.lemmas.Grind.{common_steps}
use Rattle.std.proofs.Common.{arith}
use Rattle.jv_asm.proofs.part.table_fits.Goals as goal

pub returns-then-items-lt65536 : goal.returns-then-items-lt65536
returns-then-items-lt65536 g c = grind (arith, common_steps)

pub returns-else-items-lt65536 : goal.returns-else-items-lt65536
returns-else-items-lt65536 g c = grind (arith, common_steps)
