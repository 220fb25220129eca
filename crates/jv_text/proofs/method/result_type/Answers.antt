use Rattle.std.proofs.Common.{arith}
use Rattle.std.proofs.lemmas.Grind.{common_steps}
use Rattle.jv_text.proofs.method.result_type.Goals as goal

pub returns-in-41-clause-found : goal.returns-in-41-clause-found
returns-in-41-clause-found c = grind (arith, common_steps)

pub returns-in-Err-clause-none : goal.returns-in-Err-clause-none
returns-in-Err-clause-none c = grind (arith, common_steps)

pub returns-in-Ok-clause-found : goal.returns-in-Ok-clause-found
returns-in-Ok-clause-found c = grind (arith, common_steps)
