use Rattle.std.proofs.Common.{rules}
use Rattle.jv_verify_rules.proofs.casts.test_instance.Goals as goal

pub returns : goal.returns
returns c = search rules
