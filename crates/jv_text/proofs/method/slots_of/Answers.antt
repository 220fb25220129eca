use Rattle.std.proofs.Common.{rules}
use Rattle.jv_text.proofs.method.slots_of.Goals as goal

pub returns-in_default-2 : goal.returns-in_default-2
returns-in_default-2 c = search rules
