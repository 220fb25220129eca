use Rattle.std.proofs.Common.{rules}
use Rattle.jv_class.proofs.method_rules.slots_keep_rules.Goals as goal

pub returns-else-intersects : goal.returns-else-intersects
returns-else-intersects c = search rules
