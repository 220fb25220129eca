use Rattle.std.proofs.Common.{rules}
use Rattle.jv_link.proofs.selection.select_virtual.Goals as goal

pub returns-clause-found : goal.returns-clause-found
returns-clause-found c = search rules
