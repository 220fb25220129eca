use Rattle.std.proofs.Common.{rules}
use Rattle.jv_verify_types.proofs.current_class.CurrentClass.is_superclass.Goals as goal

pub returns-in-Some : goal.returns-in-Some
returns-in-Some c = search rules
