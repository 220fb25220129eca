use Rattle.std.proofs.Common.{rules}
use Rattle.jv_assign.proofs.arrays.is_above_arrays.Goals as goal

pub returns-else-eq-2 : goal.returns-else-eq-2
returns-else-eq-2 c = search rules
