use Rattle.jv_code.proofs.StartLaws.{OneList-holds}
use Rattle.jv_code.proofs.law.one_list.Goals as goal

pub returns : goal.returns
returns c = OneList-holds
