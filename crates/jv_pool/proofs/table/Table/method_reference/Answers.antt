use Rattle.std.proofs.Common.{rules}
use Rattle.jv_pool.proofs.table.Table.method_reference.Goals as goal

pub returns-in_default : goal.returns-in_default
returns-in_default c = search rules
