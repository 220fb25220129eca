use Rattle.std.proofs.Common.{◌-◌}
use Rattle.jv_code.specs.Switches.{pairs_in}
use Rattle.jv_code.proofs.Keys.{Searched}
use Rattle.jv_code.proofs.switches.place_of_key.Given as goal

abbrev pub invariant-loop-low : goal.invariant-loop-low
invariant-loop-low l = Searched (pairs_in l.pairs) l.fn.key l.low l.high

abbrev pub decreases-loop-low : goal.decreases-loop-low
decreases-loop-low l = l.high - l.low
