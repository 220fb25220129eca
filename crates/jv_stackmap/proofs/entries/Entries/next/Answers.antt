use Rattle.std.proofs.Common.{rules}
use Rattle.jv_stackmap.proofs.entries.Entries.next.Goals as goal

pub returns : goal.returns
returns c = search rules
