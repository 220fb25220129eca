use Rattle.std.proofs.Common.{rules}
use Rattle.jv_program_base.proofs.main_name.main_name_of.Goals as goal

pub returns-then-ends_with-2 : goal.returns-then-ends_with-2
returns-then-ends_with-2 c = search rules

pub returns-else-ends_with-2 : goal.returns-else-ends_with-2
returns-else-ends_with-2 c = search rules
