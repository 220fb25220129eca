use Rattle.std.proofs.Common.{rules}
use Rattle.jv_pool.proofs.pool.Pool.count.Goals as goal

pub returns : goal.returns
returns c = search rules
