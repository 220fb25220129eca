use Rattle.std.proofs.lemmas.Grind.{common_steps}
use Rattle.std.proofs.Common.{arith}
use Rattle.jv_program_base.proofs.folder.path_in.Goals as goal

pub returns : goal.returns
returns c = grind (arith, common_steps)
