use Rattle.std.proofs.Common.{rules}
use Rattle.jv_class.proofs.class_file.ClassFile.this_class.Goals as goal

pub returns-clause-same : goal.returns-clause-same
returns-clause-same c = search rules

pub returns-clause-named : goal.returns-clause-named
returns-clause-named c = search rules
