use Rattle.std.proofs.Common.{rules}
use Rattle.jv_program_base.proofs.folder.read_class_file.Goals as goal

pub returns-clause-named : goal.returns-clause-named
returns-clause-named c = search rules
