use Rattle.std.proofs.Common.{rules}
use Rattle.jv_pool.proofs.table.Table.utf8.Goals as goal

pub returns-in-Some-Utf8 : goal.returns-in-Some-Utf8
returns-in-Some-Utf8 c = search rules
