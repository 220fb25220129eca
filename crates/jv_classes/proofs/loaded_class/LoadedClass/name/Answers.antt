use Rattle.std.proofs.Common.{rules}
use Rattle.jv_classes.proofs.loaded_class.LoadedClass.name.Goals as goal

pub returns : goal.returns
returns c = search rules
