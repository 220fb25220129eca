use Rattle.std.proofs.Common.{rules}
use Rattle.jv_host.proofs.host.Host.verdicts.Goals as goal

pub returns-in-Ok-clause-ok : goal.returns-in-Ok-clause-ok
returns-in-Ok-clause-ok g c = search rules
