use Rattle.std.proofs.Common.{rules}
use Rattle.jv_verify_rules.proofs.context.MethodContext.new.Goals as goal

pub returns-clause-of : goal.returns-clause-of
returns-clause-of c = search rules
