use Rattle.std.proofs.Common.{rules}
use Rattle.jv_link.proofs.special.select_special.Goals as goal

pub returns-then-is_init-clause-found : goal.returns-then-is_init-clause-found
returns-then-is_init-clause-found c = search rules
