use Rattle.std.proofs.Common.{◌≤◌, ◌-◌}
use Rattle.jv_verify_peaks.specs.Stretches.{AreAtMost}
use Rattle.jv_verify_peaks.proofs.peaks.Peaks.next.Given as goal

abbrev pub invariant-loop-at : goal.invariant-loop-at
invariant-loop-at l = record { least : l.fn.from ≤ l.at; low : AreAtMost l.fn.bound l.fn.from l.at l.self }

abbrev pub decreases-loop-at : goal.decreases-loop-at
decreases-loop-at l = l.fn.to - l.at
