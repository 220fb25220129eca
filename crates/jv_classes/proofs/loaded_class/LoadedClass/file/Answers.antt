use Rattle.std.proofs.Common.{rules}
use Rattle.jv_classes.proofs.loaded_class.LoadedClass.file.Goals as goal

pub returns-clause-none : goal.returns-clause-none
returns-clause-none c = search rules
