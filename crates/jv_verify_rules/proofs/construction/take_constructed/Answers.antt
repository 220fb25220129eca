use Rattle.std.proofs.Common.{rules}
use Rattle.jv_verify_rules.proofs.construction.take_constructed.Goals as goal

pub returns-then-take_arguments : goal.returns-then-take_arguments
returns-then-take_arguments c = search rules
