use Rattle.jv_verify_rules.proofs.Below.{leaves_below}
use Rattle.jv_verify_rules.proofs.law.leaves_below.Goals as goal

pub returns : goal.returns
returns c = leaves_below
