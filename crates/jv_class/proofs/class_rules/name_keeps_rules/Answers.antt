use Rattle.std.proofs.Common.{rules}
use Rattle.jv_class.proofs.class_rules.name_keeps_rules.Goals as goal

pub returns-then-not-is_array_name : goal.returns-then-not-is_array_name
returns-then-not-is_array_name c = search rules
