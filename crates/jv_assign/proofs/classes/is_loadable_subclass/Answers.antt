use Rattle.std.proofs.Common.{rules}
use Rattle.jv_assign.proofs.classes.is_loadable_subclass.Goals as goal

pub returns-then-is_loadable : goal.returns-then-is_loadable
returns-then-is_loadable c = search rules
