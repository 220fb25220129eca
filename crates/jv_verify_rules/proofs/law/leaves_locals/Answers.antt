use Rattle.jv_verify_rules.proofs.Unwritten.{locals_are_kept}
use Rattle.jv_verify_rules.proofs.law.leaves_locals.Goals as goal

pub returns : goal.returns
returns c = locals_are_kept
