use Rattle.std.proofs.Common.{◌≤◌}
use Rattle.jv_lookups.specs.Inside.Fronts.{AreUnmarked}
use Rattle.jv_lookups.proofs.above.marked_end.Given as goal

abbrev pub invariant-loop-now : goal.invariant-loop-now
invariant-loop-now l = record {
  within : l.now ≤ l.end;
  none_behind : AreUnmarked l.row l.chain l.now l.end;
}

abbrev pub decreases-loop-now : goal.decreases-loop-now
decreases-loop-now l = l.now
