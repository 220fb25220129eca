use Rattle.jv_lookups.proofs.Collected.{LeavesSpecifics}
use Rattle.jv_lookups.proofs.superinterface.specifics.Given as goal

abbrev pub invariant-loop-class : goal.invariant-loop-class
invariant-loop-class l = LeavesSpecifics l.table l.from l.searched l.name l.descriptor l.class-index l.found
