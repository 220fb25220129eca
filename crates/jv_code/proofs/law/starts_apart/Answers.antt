use Rattle.jv_code.proofs.StartLaws.{StartsApart-holds}
use Rattle.jv_code.proofs.law.starts_apart.Goals as goal

pub returns : goal.returns
returns c = StartsApart-holds
