use Rattle.std.proofs.Common.{arith}
use Rattle.jv_code.proofs.Pairs.{pair_there, no_pair_past}
use Rattle.jv_code.proofs.switches.pair_at.Goals as goal

pub returns : goal.returns
returns c = grind (arith, pair_there)

pub returns-then-bytes-place : goal.returns-then-bytes-place
returns-then-bytes-place c = grind (arith, no_pair_past)
