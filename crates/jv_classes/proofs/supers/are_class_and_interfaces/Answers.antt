use Rattle.std.proofs.Common.{rules}
use Rattle.jv_classes.proofs.supers.are_class_and_interfaces.Goals as goal

pub returns-then-is_class_at : goal.returns-then-is_class_at
returns-then-is_class_at c = search rules

pub returns-else-is_class_at : goal.returns-else-is_class_at
returns-else-is_class_at c = search rules
