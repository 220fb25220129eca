use Rattle.std.proofs.Common.{rules}
use Rattle.jv_verify_types.proofs.current_class.CurrentClass.is_near.Goals as goal

pub returns-else-is_current : goal.returns-else-is_current
returns-else-is_current c = search rules
