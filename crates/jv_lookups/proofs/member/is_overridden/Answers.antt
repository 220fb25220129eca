use Rattle.std.proofs.Common.{rules}
use Rattle.jv_lookups.proofs.member.is_overridden.Goals as goal

pub returns-then-not-intersects : goal.returns-then-not-intersects
returns-then-not-intersects c = search rules
