use Rattle.std.proofs.Common.{arith}
use Rattle.std.proofs.lemmas.Grind.{elements}
use Rattle.jv_pool.proofs.pool.Pool.first_alike.Goals as goal

pub returns-clause-first : goal.returns-clause-first
returns-clause-first c = grind (arith, elements)

pub returns-clause-same : goal.returns-clause-same
returns-clause-same c = grind (arith, elements)

pub unreachable-requires : goal.unreachable-requires
unreachable-requires c = grind (arith, elements)
