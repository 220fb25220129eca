use Rattle.std.proofs.Common.{rules}
use Rattle.jv_link.proofs.method.names_its_kind.Goals as goal

pub returns-else-of_interface : goal.returns-else-of_interface
returns-else-of_interface c = search rules
