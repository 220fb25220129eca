use Rattle.std.proofs.Common.{rules}
use Rattle.jv_pool.proofs.table.kind_among.Goals as goal

pub returns-in-Float : goal.returns-in-Float
returns-in-Float c = search rules
