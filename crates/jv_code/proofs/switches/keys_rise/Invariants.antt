use Rattle.std.proofs.Common.{◌≡◌, length}
use Rattle.jv_code.specs.Switches.{pairs_in, keys_rise, rise_above}
use Rattle.jv_code.proofs.switches.keys_rise.Given as goal

abbrev pub invariant-loop-next : goal.invariant-loop-next
invariant-loop-next l = rise_above l.key (pairs_in l.rest) ≡ keys_rise (pairs_in l.bytes)

abbrev pub decreases-loop-next : goal.decreases-loop-next
decreases-loop-next l = length l.rest
