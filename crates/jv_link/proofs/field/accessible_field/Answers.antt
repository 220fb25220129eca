use Rattle.std.proofs.Common.{rules}
use Rattle.jv_link.proofs.field.accessible_field.Goals as goal

pub returns-else-can_access-clause-found : goal.returns-else-can_access-clause-found
returns-else-can_access-clause-found c = search rules
