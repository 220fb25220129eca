use Rattle.std.proofs.Common.{rules}
use Rattle.jv_stackmap.proofs.entries.MapFrame.stack.Goals as goal

pub returns : goal.returns
returns c = search rules
