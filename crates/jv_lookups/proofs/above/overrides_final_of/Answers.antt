use Rattle.std.proofs.Common.{rules}
use Rattle.jv_lookups.proofs.above.overrides_final_of.Goals as goal

pub returns-clause-marks : goal.returns-clause-marks
returns-clause-marks c = search rules
