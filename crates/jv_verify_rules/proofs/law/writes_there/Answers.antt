use Rattle.jv_verify_rules.proofs.Written.{writes_there}
use Rattle.jv_verify_rules.proofs.law.writes_there.Goals as goal

pub returns : goal.returns
returns c = writes_there
