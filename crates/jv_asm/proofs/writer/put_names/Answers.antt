use Rattle.std.proofs.Common.{rules}
use Rattle.jv_asm.proofs.writer.put_names.Goals as goal

pub returns : goal.returns
returns c = search rules
