use Rattle.std.proofs.Common.{arith}
use Rattle.jv_code.proofs.Distances.{distance_there, none_past}
use Rattle.jv_code.proofs.switches.distance_at.Goals as goal

pub returns : goal.returns
returns c = grind (arith, distance_there)

pub returns-then-bytes-place : goal.returns-then-bytes-place
returns-then-bytes-place c = grind (arith, none_past)
