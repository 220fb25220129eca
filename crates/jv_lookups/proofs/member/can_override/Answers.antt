use Rattle.std.proofs.Common.{rules}
use Rattle.jv_lookups.proofs.member.can_override.Goals as goal

pub returns-then-is_instance : goal.returns-then-is_instance
returns-then-is_instance c = search rules

pub returns-else-is_instance : goal.returns-else-is_instance
returns-else-is_instance c = search rules
