use Rattle.std.proofs.Common.{rules}
use Rattle.jv_class.proofs.method_rules.clinit_keeps_rules.Goals as goal

pub returns-then-intersects : goal.returns-then-intersects
returns-then-intersects c = search rules

pub returns-else-intersects : goal.returns-else-intersects
returns-else-intersects c = search rules
