use Rattle.std.proofs.Common.{rules}
use Rattle.jv_assign.proofs.arrays.array_flows_to.Goals as goal

pub returns-in-Class : goal.returns-in-Class
returns-in-Class c = search rules
