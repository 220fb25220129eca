use Rattle.std.proofs.Common.{rules}
use Rattle.jv_verify_rules.proofs.casts.cast.Goals as goal

pub returns : goal.returns
returns c = search rules
