use Rattle.std.proofs.Common.{rules}
use Rattle.jv_program_base.proofs.escape.is_shown_plain.Goals as goal

pub returns-then-byte-le126 : goal.returns-then-byte-le126
returns-then-byte-le126 c = search rules
