use Rattle.std.proofs.lemmas.Grind.{elements}
use Rattle.std.proofs.Common.{arith}
use Rattle.jv_code.proofs.starts.is_marked.Goals as goal

pub returns-else-pc-marks : goal.returns-else-pc-marks
returns-else-pc-marks c = grind (arith, elements)

pub returns-then-pc-marks : goal.returns-then-pc-marks
returns-then-pc-marks c = grind (arith, elements)
