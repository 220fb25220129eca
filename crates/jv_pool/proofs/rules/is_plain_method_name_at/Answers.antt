use Rattle.std.proofs.Common.{rules}
use Rattle.jv_pool.proofs.rules.is_plain_method_name_at.Goals as goal

pub returns-then-is_method_name_at : goal.returns-then-is_method_name_at
returns-then-is_method_name_at c = search rules
