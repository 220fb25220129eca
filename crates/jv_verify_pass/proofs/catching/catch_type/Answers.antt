use Rattle.std.proofs.Common.{rules}
use Rattle.jv_verify_pass.proofs.catching.catch_type.Goals as goal

pub returns-then-index-eq0 : goal.returns-then-index-eq0
returns-then-index-eq0 c = search rules
