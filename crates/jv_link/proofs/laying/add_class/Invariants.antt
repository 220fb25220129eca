use Rattle.jv_link.proofs.Fields.{LaysOn}
use Rattle.jv_link.proofs.laying.add_class.Given as goal

abbrev pub invariant-loop-member : goal.invariant-loop-member
invariant-loop-member l = LaysOn l.table l.class l.initial.layout l.member l.layout
