use Rattle.jv_format.proofs.HandlersIn.{stand}
use Rattle.jv_format.proofs.law.handlers_stand.Goals as goal

pub returns : goal.returns
returns c = stand
