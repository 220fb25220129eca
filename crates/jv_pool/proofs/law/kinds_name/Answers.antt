use Rattle.jv_pool.proofs.NamedBy.{by_kind}
use Rattle.jv_pool.proofs.law.kinds_name.Goals as goal

pub returns : goal.returns
returns c = by_kind
