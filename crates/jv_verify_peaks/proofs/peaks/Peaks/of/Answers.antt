use Rattle.std.proofs.Common.{refl}
use Rattle.jv_verify_peaks.proofs.Rows.{filled}
use Rattle.jv_verify_peaks.proofs.peaks.Peaks.of.Goals as goal

pub loop-place-preserved : goal.loop-place-preserved
loop-place-preserved c =
    filled c.args.values.now c.loop-place.peaks c.raise.new.self c.loop-place.place _ c.loop-place-test.true c.loop-place.invariant refl c.raise.ensures
