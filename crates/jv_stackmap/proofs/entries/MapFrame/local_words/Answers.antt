use Rattle.std.proofs.Common.{rules}
use Rattle.jv_stackmap.proofs.entries.MapFrame.local_words.Goals as goal

pub returns : goal.returns
returns c = search rules
