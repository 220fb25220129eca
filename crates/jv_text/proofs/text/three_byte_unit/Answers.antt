use Rattle.std.proofs.Common.{arith}
use Rattle.std.proofs.lemmas.Grind.{common_steps}
use Rattle.jv_text.proofs.text.three_byte_unit.Goals as goal

pub returns-then-unit-lt2048-clause-none : goal.returns-then-unit-lt2048-clause-none
returns-then-unit-lt2048-clause-none c = grind (arith, common_steps)
