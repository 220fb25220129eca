use Rattle.jv_code.proofs.StartLaws.{EachHasDistance-holds}
use Rattle.jv_code.proofs.law.each_has_distance.Goals as goal

pub returns : goal.returns
returns c = EachHasDistance-holds
