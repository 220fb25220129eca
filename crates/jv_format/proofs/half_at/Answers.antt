use Rattle.std.proofs.lemmas.Grind.{common_steps}
use Rattle.std.proofs.Common.{arith}
use Rattle.jv_format.proofs.half_at.Goals as goal

pub returns-in-len2-up : goal.returns-in-len2-up
returns-in-len2-up c = grind (arith, common_steps)
