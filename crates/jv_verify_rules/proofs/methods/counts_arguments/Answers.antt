use Rattle.std.proofs.Common.{arith}
use Rattle.std.proofs.lemmas.Grind.{common_steps}
use Rattle.jv_verify_rules.proofs.methods.counts_arguments.Goals as goal

pub returns : goal.returns
returns c = grind (arith, common_steps)
