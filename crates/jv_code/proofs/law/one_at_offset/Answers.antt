use Rattle.jv_code.proofs.StartLaws.{OneAtOffset-holds}
use Rattle.jv_code.proofs.law.one_at_offset.Goals as goal

pub returns : goal.returns
returns c = OneAtOffset-holds
