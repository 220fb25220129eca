use Rattle.std.proofs.Common.{rules}
use Rattle.jv_classes.proofs.package.is_same_loader.Goals as goal

pub returns-then-by_system : goal.returns-then-by_system
returns-then-by_system c = search rules
