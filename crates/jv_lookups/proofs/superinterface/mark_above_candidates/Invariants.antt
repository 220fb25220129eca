use Rattle.jv_lookups.proofs.MarkedAbove.{LeavesMarks}
use Rattle.jv_lookups.proofs.superinterface.mark_above_candidates.Given as goal

abbrev pub invariant-loop-class : goal.invariant-loop-class
invariant-loop-class l = LeavesMarks l.table l.from l.searched l.name l.descriptor l.fn.above l.above l.class-index
