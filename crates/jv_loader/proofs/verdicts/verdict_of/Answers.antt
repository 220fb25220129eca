use Rattle.std.proofs.Common.{rules}
use Rattle.jv_loader.proofs.verdicts.verdict_of.Goals as goal

pub returns-then-has_final_super-clause-verdict : goal.returns-then-has_final_super-clause-verdict
returns-then-has_final_super-clause-verdict c = search rules
