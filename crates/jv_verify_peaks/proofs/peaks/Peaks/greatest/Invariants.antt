use Rattle.std.proofs.Common.{◌≤◌, ◌-◌, max}
use Rattle.jv_verify_peaks.specs.Stretches.{IsGreatest}
use Rattle.jv_verify_peaks.proofs.peaks.Peaks.greatest.Given as goal

abbrev pub invariant-loop-at : goal.invariant-loop-at
invariant-loop-at l = record {
  least : l.fn.from ≤ l.at;
  most : l.at ≤ max l.fn.to l.fn.from;
  greatest : IsGreatest l.fn.from l.at l.self l.greatest;
}

abbrev pub decreases-loop-at : goal.decreases-loop-at
decreases-loop-at l = l.fn.to - l.at
