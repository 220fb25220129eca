use Rattle.std.proofs.Common.{rules}
use Rattle.jv_link.proofs.layout.add_field.Goals as goal

pub returns-clause-fields : goal.returns-clause-fields
returns-clause-fields c = search rules
