use Rattle.std.proofs.Common.{rules}
use Rattle.jv_assign.proofs.types.is_uninitialized.Goals as goal

pub returns-in-Uninitialized : goal.returns-in-Uninitialized
returns-in-Uninitialized c = search rules
