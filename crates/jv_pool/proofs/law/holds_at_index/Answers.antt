use Rattle.jv_pool.proofs.NamedBy.{at_one}
use Rattle.jv_pool.proofs.law.holds_at_index.Goals as goal

pub returns : goal.returns
returns c = at_one
