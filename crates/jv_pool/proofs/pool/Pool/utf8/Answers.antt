use Rattle.std.proofs.Common.{rules}
use Rattle.jv_pool.proofs.pool.Pool.utf8.Goals as goal

pub unreachable-requires : goal.unreachable-requires
unreachable-requires c = search rules

pub returns : goal.returns
returns c = search rules
