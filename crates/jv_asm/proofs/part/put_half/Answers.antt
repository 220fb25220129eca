use Rattle.std.proofs.Common.{rules}
use Rattle.jv_asm.proofs.part.put_half.Goals as goal

pub returns : goal.returns
returns c = search rules
