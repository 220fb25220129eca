use Rattle.std.proofs.Common.{rules}
use Rattle.jv_classes.proofs.class_table.ClassTable.is_circular.Goals as goal

pub returns : goal.returns
returns c = search rules
