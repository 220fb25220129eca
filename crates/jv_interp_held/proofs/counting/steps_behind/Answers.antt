use Rattle.std.proofs.Common.{arith}
use Rattle.jv_interp_held.proofs.counting.steps_behind.Goals as goal

pub returns : goal.returns
returns c = let some = c.requires in omega (arith, some)
