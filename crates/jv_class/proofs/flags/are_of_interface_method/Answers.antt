use Rattle.std.proofs.Common.{rules}
use Rattle.jv_class.proofs.flags.are_of_interface_method.Goals as goal

pub returns-then-visibility-eq2 : goal.returns-then-visibility-eq2
returns-then-visibility-eq2 c = search rules
