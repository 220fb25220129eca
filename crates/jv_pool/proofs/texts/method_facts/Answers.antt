use Rattle.std.proofs.Common.{rules}
use Rattle.jv_pool.proofs.texts.method_facts.Goals as goal

pub returns-in-Ok : goal.returns-in-Ok
returns-in-Ok c = search rules
