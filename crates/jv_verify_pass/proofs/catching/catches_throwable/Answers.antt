use Rattle.std.proofs.Common.{rules}
use Rattle.jv_verify_pass.proofs.catching.catches_throwable.Goals as goal

pub returns-in-Some : goal.returns-in-Some
returns-in-Some c = search rules
