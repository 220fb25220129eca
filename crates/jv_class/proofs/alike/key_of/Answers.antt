use Rattle.std.proofs.Common.{rules}
use Rattle.jv_class.proofs.alike.key_of.Goals as goal

pub returns : goal.returns
returns c = search rules
