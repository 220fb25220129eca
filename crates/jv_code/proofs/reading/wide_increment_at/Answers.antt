use Rattle.std.proofs.Common.{rules}
use Rattle.jv_code.proofs.reading.wide_increment_at.Goals as goal

pub returns : goal.returns
returns c = search rules
