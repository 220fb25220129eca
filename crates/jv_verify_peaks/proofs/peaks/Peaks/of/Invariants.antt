use Rattle.std.proofs.Common.{◌≡◌, ◌-◌, ◌++◌, length, replicate, take}
use Rattle.jv_verify_peaks.proofs.peaks.Peaks.of.Given as goal

abbrev pub invariant-loop-place : goal.invariant-loop-place
invariant-loop-place l = l.peaks ≡ take l.place l.values ++ replicate (length l.values - l.place) 0
