use Rattle.std.proofs.Common.{arith}
use Rattle.std.proofs.lemmas.Grind.{common_steps}
use Rattle.jv_text.proofs.text.two_byte_unit.Goals as goal

pub returns-clause-found : goal.returns-clause-found
returns-clause-found c = grind (arith, common_steps)

pub returns-then-unit-lt128-clause-none : goal.returns-then-unit-lt128-clause-none
returns-then-unit-lt128-clause-none c = grind (arith, common_steps)
