use Rattle.std.proofs.Common.{rules}
use Rattle.jv_code.proofs.switches.padding_at.Goals as goal

pub returns : goal.returns
returns c = search rules
