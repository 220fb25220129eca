use Rattle.std.proofs.Common.{rules}
use Rattle.jv_text.proofs.method.is_floating.Goals as goal

pub returns-in_default : goal.returns-in_default
returns-in_default c = search rules
