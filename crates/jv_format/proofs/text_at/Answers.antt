use Rattle.std.proofs.Common.{rules}
use Rattle.jv_format.proofs.text_at.Goals as goal

pub returns : goal.returns
returns c = search rules
