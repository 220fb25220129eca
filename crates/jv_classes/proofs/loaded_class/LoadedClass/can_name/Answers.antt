use Rattle.std.proofs.Common.{rules}
use Rattle.jv_classes.proofs.loaded_class.LoadedClass.can_name.Goals as goal

pub returns-then-intersects : goal.returns-then-intersects
returns-then-intersects c = search rules
