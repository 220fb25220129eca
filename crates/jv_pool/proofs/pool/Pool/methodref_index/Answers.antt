use Rattle.std.proofs.Common.{rules}
use Rattle.jv_pool.proofs.pool.Pool.methodref_index.Goals as goal

pub returns-in-Some-clause-same : goal.returns-in-Some-clause-same
returns-in-Some-clause-same c = search rules

pub returns-in-Some-clause-names : goal.returns-in-Some-clause-names
returns-in-Some-clause-names c = search rules
