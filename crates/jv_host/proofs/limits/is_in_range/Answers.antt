use Rattle.std.proofs.Common.{rules}
use Rattle.jv_host.proofs.limits.is_in_range.Goals as goal

pub returns-then-is_from_to-2 : goal.returns-then-is_from_to-2
returns-then-is_from_to-2 c = search rules
