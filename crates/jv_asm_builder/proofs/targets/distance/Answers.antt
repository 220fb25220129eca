use Rattle.std.proofs.Common.{rules}
use Rattle.jv_asm_builder.proofs.targets.distance.Goals as goal

pub returns-in-Ok : goal.returns-in-Ok
returns-in-Ok c = search rules
