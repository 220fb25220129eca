use Rattle.std.proofs.lemmas.Grind.{elements}
use Rattle.std.proofs.Common.{arith}
use Rattle.jv_classes.proofs.class_table.ClassTable.is_loadable.Goals as goal

pub returns : goal.returns
returns c = grind (arith, elements)
