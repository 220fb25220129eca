use Rattle.std.proofs.Common.{rules}
use Rattle.jv_verify_rules.proofs.operands.sets_own.Goals as goal

pub returns-then-is_init : goal.returns-then-is_init
returns-then-is_init c = search rules
