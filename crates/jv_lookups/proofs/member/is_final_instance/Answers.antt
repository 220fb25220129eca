use Rattle.std.proofs.Common.{rules}
use Rattle.jv_lookups.proofs.member.is_final_instance.Goals as goal

pub returns-then-intersects : goal.returns-then-intersects
returns-then-intersects c = search rules

pub returns-else-intersects : goal.returns-else-intersects
returns-else-intersects c = search rules
