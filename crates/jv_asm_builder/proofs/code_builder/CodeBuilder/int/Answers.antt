use Rattle.std.proofs.Common.{rules}
use Rattle.jv_asm_builder.proofs.code_builder.CodeBuilder.int.Goals as goal

pub returns-then-value-le5 : goal.returns-then-value-le5
returns-then-value-le5 c = search rules
