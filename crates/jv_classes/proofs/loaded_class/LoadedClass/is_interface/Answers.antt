use Rattle.std.proofs.Common.{rules}
use Rattle.jv_classes.proofs.loaded_class.LoadedClass.is_interface.Goals as goal

pub returns : goal.returns
returns c = search rules
