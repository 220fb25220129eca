use Rattle.std.proofs.Common.{rules}
use Rattle.jv_link.proofs.class.if_open.Goals as goal

pub returns-in-Some-clause-found : goal.returns-in-Some-clause-found
returns-in-Some-clause-found c = search rules
