use Rattle.std.proofs.Common.{rules}
use Rattle.jv_asm.proofs.code.tableswitch_size.Goals as goal

pub returns-clause-size : goal.returns-clause-size
returns-clause-size c = search rules
