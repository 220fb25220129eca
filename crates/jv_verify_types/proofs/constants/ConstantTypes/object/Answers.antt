use Rattle.std.proofs.Common.{rules}
use Rattle.jv_verify_types.proofs.constants.ConstantTypes.object.Goals as goal

pub returns : goal.returns
returns c = search rules
