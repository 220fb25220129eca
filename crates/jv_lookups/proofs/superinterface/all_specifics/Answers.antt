use Rattle.jv_lookups.proofs.MarkedAbove.{none_marked}
use Rattle.jv_lookups.proofs.superinterface.all_specifics.Goals as goal

pub marked_specifics-requires-clause-above : goal.marked_specifics-requires-clause-above
marked_specifics-requires-clause-above c = λ class. none_marked c.count-count.result 1088 class c.if-count-le-MOST.true
