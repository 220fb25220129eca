use Rattle.jv_code.proofs.Pairs.{pairs_stand}
use Rattle.jv_code.proofs.law.pairs_stand.Goals as goal

pub returns : goal.returns
returns c = pairs_stand
