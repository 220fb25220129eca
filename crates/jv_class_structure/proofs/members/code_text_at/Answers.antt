use Rattle.std.proofs.Common.{rules}
use Rattle.jv_class_structure.proofs.members.code_text_at.Goals as goal

pub returns-then-code-lt65536 : goal.returns-then-code-lt65536
returns-then-code-lt65536 c = search rules
