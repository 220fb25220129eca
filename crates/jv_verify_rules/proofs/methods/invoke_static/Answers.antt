use Rattle.std.proofs.Common.{rules}
use Rattle.jv_verify_rules.proofs.methods.invoke_static.Goals as goal

pub returns-then-method : goal.returns-then-method
returns-then-method c = search rules
