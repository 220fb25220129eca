use Rattle.jv_code.proofs.StartLaws.{StandsInList-holds}
use Rattle.jv_code.proofs.law.stands_in_list.Goals as goal

pub returns : goal.returns
returns c = StandsInList-holds
