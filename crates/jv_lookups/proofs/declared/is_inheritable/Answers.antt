use Rattle.std.proofs.Common.{rules}
use Rattle.jv_lookups.proofs.declared.is_inheritable.Goals as goal

pub returns : goal.returns
returns c = search rules
