use Rattle.std.proofs.Common.{arith}
use Rattle.std.proofs.lemmas.Grind.{common_steps}
use Rattle.jv_text.proofs.field.element_at.Goals as goal

pub returns-in-Some-clause-found : goal.returns-in-Some-clause-found
returns-in-Some-clause-found c = grind (arith, common_steps)

pub returns-in-None-clause-no_class : goal.returns-in-None-clause-no_class
returns-in-None-clause-no_class c = grind (arith, common_steps)

pub returns-in-Some-base_of-clause-found : goal.returns-in-Some-base_of-clause-found
returns-in-Some-base_of-clause-found c = grind (arith, common_steps)

pub returns-in-None-base_of-clause-no_base : goal.returns-in-None-base_of-clause-no_base
returns-in-None-base_of-clause-no_base c = grind (arith, common_steps)

pub returns-in-None-clause-no_base : goal.returns-in-None-clause-no_base
returns-in-None-clause-no_base c = grind (arith, common_steps)

pub returns-in-None-base_of-clause-no_class : goal.returns-in-None-base_of-clause-no_class
returns-in-None-base_of-clause-no_class c = grind (arith, common_steps)
