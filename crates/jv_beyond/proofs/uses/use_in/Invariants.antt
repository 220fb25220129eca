use Rattle.std.proofs.Common.{◌-◌}
use Rattle.jv_code.specs.Places.{IsStartOrEnd}
use Rattle.jv_beyond.specs.Inside.Used.{NoUseBefore}
use Rattle.jv_beyond.proofs.uses.use_in.Given as goal

abbrev pub decreases-loop-offset : goal.decreases-loop-offset
decreases-loop-offset l = l.size - l.offset

abbrev pub invariant-loop-offset : goal.invariant-loop-offset
invariant-loop-offset l = IsStartOrEnd l.code.bytes.now l.offset × NoUseBefore l.pool l.code.bytes.now l.offset
