use Rattle.std.proofs.Common.{rules}
use Rattle.jv_class.proofs.method_rules.code_presence_keeps_rules.Goals as goal

pub returns-then-is_bodiless : goal.returns-then-is_bodiless
returns-then-is_bodiless c = search rules
