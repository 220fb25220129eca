use Rattle.std.proofs.Common.{rules}
use Rattle.jv_verify_types.proofs.marks.mark.Goals as goal

pub returns-then-place-marks : goal.returns-then-place-marks
returns-then-place-marks c = search rules
