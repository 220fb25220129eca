use Rattle.std.proofs.Common.{rules}
use Rattle.jv_classes.proofs.loaded_class.LoadedClass.by_system.Goals as goal

pub returns : goal.returns
returns c = search rules
