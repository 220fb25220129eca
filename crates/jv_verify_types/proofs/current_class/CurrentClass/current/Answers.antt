use Rattle.std.proofs.Common.{rules}
use Rattle.jv_verify_types.proofs.current_class.CurrentClass.current.Goals as goal

pub returns : goal.returns
returns c = search rules
