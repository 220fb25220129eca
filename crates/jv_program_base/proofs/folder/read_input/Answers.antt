use Rattle.std.proofs.Common.{rules}
use Rattle.jv_program_base.proofs.folder.read_input.Goals as goal

pub returns-then-is_listed_name-clause-absent : goal.returns-then-is_listed_name-clause-absent
returns-then-is_listed_name-clause-absent c = search rules
