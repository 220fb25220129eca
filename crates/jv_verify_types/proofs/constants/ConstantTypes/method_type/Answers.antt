use Rattle.std.proofs.Common.{rules}
use Rattle.jv_verify_types.proofs.constants.ConstantTypes.method_type.Goals as goal

pub returns-in-Method : goal.returns-in-Method
returns-in-Method c = search rules
