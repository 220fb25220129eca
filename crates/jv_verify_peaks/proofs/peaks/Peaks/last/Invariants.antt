use Rattle.std.proofs.Common.{◌≤◌}
use Rattle.jv_verify_peaks.specs.Stretches.{AreAtMost}
use Rattle.jv_verify_peaks.proofs.peaks.Peaks.last.Given as goal

abbrev pub invariant-loop-at : goal.invariant-loop-at
invariant-loop-at l = record { most : l.at ≤ l.fn.to; low : AreAtMost l.fn.bound l.at l.fn.to l.self }

abbrev pub decreases-loop-at : goal.decreases-loop-at
decreases-loop-at l = l.at
