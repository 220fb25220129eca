use Rattle.std.proofs.Common.{rules}
use Rattle.jv_stackmap.proofs.table.FrameTable.is_within.Goals as goal

pub returns-then-self-from : goal.returns-then-self-from
returns-then-self-from c = search rules
