use Rattle.std.proofs.lemmas.Grind.{elements}
use Rattle.std.proofs.Common.{arith}
use Rattle.jv_lookups.proofs.method.lookup_method.Goals as goal

pub returns-else-is_interface-clause-found : goal.returns-else-is_interface-clause-found
returns-else-is_interface-clause-found c = grind (arith, elements)
