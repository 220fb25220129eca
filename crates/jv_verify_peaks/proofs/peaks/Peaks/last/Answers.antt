use Rattle.std.proofs.Common.{◌-◌, inl, inr, arith}
use Rattle.std.proofs.lemmas.Bool.{cases_lt}
use Rattle.jv_verify_peaks.proofs.peaks.Peaks.last.Goals as goal

pub loop-at-preserved : goal.loop-at-preserved
loop-at-preserved c = record {
  most = omega (arith, c.loop-at.invariant.most);
  low = λ k le lt.
      elim (cases_lt k c.loop-at.at) [
        | inl less ↦ c.low_before-low.ensures.low (c.loop-at.at - c.low_before-low.result) (omega (arith, c.low_before-low.ensures.within)) k le less
        | inr ge ↦ c.loop-at.invariant.low k ge lt
      ];
}
