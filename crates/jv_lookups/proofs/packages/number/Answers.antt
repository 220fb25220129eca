use Rattle.std.proofs.Common.{rules}
use Rattle.jv_lookups.proofs.packages.number.Goals as goal

pub returns-then-by_system : goal.returns-then-by_system
returns-then-by_system c = search rules
