use Rattle.std.proofs.Common.{rules}
use Rattle.jv_loader.proofs.entry.is_reserved.Goals as goal

pub returns-else-starts_with : goal.returns-else-starts_with
returns-else-starts_with c = search rules
