use Rattle.std.proofs.Common.{rules}
use Rattle.jv_stackmap.proofs.entry.object_at.Goals as goal

pub returns : goal.returns
returns c = search rules
