use Rattle.std.proofs.Common.{rules}
use Rattle.jv_loader.proofs.entry.put_class.Goals as goal

pub returns-then-is_some-clause-entry : goal.returns-then-is_some-clause-entry
returns-then-is_some-clause-entry c = search rules
