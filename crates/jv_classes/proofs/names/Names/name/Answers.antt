use Rattle.std.proofs.lemmas.Grind.{common_steps}
use Rattle.std.proofs.Common.{arith}
use Rattle.jv_classes.proofs.names.Names.name.Goals as goal

pub returns : goal.returns
returns c = grind (arith, common_steps)
