use Rattle.std.proofs.Common.{rules}
use Rattle.jv_stackmap.proofs.entry.entry_words.Goals as goal

pub returns-in-Long : goal.returns-in-Long
returns-in-Long c = search rules
