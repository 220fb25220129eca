use Rattle.std.proofs.Common.{rules}
use Rattle.jv_code.proofs.profile.is_outside.Goals as goal

pub returns-then-opcode-ne169 : goal.returns-then-opcode-ne169
returns-then-opcode-ne169 c = search rules
