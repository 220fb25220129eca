use Rattle.std.proofs.Common.{rules}
use Rattle.jv_assign.proofs.types.flows_to_array.Goals as goal

pub returns-in-Array : goal.returns-in-Array
returns-in-Array c = search rules
