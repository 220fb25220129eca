use Rattle.std.proofs.Common.{rules}
use Rattle.jv_pool.proofs.rules.names_field.Goals as goal

pub returns-then-is_utf8_at : goal.returns-then-is_utf8_at
returns-then-is_utf8_at c = search rules
