use Rattle.std.proofs.Common.{rules}
use Rattle.jv_interp_held.proofs.paying.pay_if_made.Goals as goal

pub returns-clause-kept : goal.returns-clause-kept
returns-clause-kept c = search rules
