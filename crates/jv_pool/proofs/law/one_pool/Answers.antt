use Rattle.jv_pool.proofs.Constants.{OnePool-holds}
use Rattle.jv_pool.proofs.law.one_pool.Goals as goal

pub returns : goal.returns
returns c = OnePool-holds
