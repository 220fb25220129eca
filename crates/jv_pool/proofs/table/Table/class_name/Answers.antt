use Rattle.std.proofs.Common.{rules}
use Rattle.jv_pool.proofs.table.Table.class_name.Goals as goal

pub returns-in-Some-Class : goal.returns-in-Some-Class
returns-in-Some-Class c = search rules
