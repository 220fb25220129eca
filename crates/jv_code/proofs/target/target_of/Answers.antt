use Rattle.std.proofs.Common.{rules}
use Rattle.jv_code.proofs.target.target_of.Goals as goal

pub returns-then-target-lt0 : goal.returns-then-target-lt0
returns-then-target-lt0 c = search rules

pub returns : goal.returns
returns c = search rules
