use Rattle.std.proofs.Common.{length, ◌-◌}
use Rattle.jv_code.proofs.Marks.{Marked}
use Rattle.jv_code.proofs.starts.mark_starts.Given as goal

abbrev pub invariant-loop-pc : goal.invariant-loop-pc
invariant-loop-pc l = Marked l.code.bytes.now l.marks l.pc

abbrev pub decreases-loop-pc : goal.decreases-loop-pc
decreases-loop-pc l = length l.code.bytes.now - l.pc
