use Rattle.std.proofs.Common.{rules}
use Rattle.jv_verify_rules.proofs.methods.invoke_super.Goals as goal

pub returns-then-near : goal.returns-then-near
returns-then-near c = search rules
