use Rattle.std.proofs.Common.{rules}
use Rattle.jv_program_base.proofs.names.class_file_names.Goals as goal

pub returns-clause-order : goal.returns-clause-order
returns-clause-order c = search rules
