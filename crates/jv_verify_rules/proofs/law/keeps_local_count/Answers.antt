use Rattle.jv_verify_rules.proofs.Unwritten.{keeps_local_count}
use Rattle.jv_verify_rules.proofs.law.keeps_local_count.Goals as goal

pub returns : goal.returns
returns c = keeps_local_count
