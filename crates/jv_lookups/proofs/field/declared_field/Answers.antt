use Rattle.std.proofs.lemmas.Grind.{elements}
use Rattle.std.proofs.Common.{arith}
use Rattle.jv_lookups.proofs.field.declared_field.Goals as goal

pub returns-clause-found : goal.returns-clause-found
returns-clause-found c = grind (arith, elements)

pub returns-clause-place : goal.returns-clause-place
returns-clause-place c = grind (arith, elements)
