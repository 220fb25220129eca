use Rattle.std.proofs.Common.{rules}
use Rattle.jv_pool.proofs.table.Table.long.Goals as goal

pub returns-in-Some-Long : goal.returns-in-Some-Long
returns-in-Some-Long c = search rules
