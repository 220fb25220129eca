use Rattle.std.proofs.Common.{rules}
use Rattle.jv_verify_rules.proofs.context.MethodContext.max_stack.Goals as goal

pub returns : goal.returns
returns c = search rules
