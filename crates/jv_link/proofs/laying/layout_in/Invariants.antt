use Rattle.jv_link.proofs.Fields.{LaysUp}
use Rattle.jv_link.proofs.laying.layout_in.Given as goal

abbrev pub invariant-loop-step : goal.invariant-loop-step
invariant-loop-step l = LaysUp l.table l.numbers l.step l.layout
