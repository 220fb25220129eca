use Rattle.std.proofs.Common.{rules}
use Rattle.jv_interp_held.proofs.held.keep_literal.Goals as goal

pub returns-clause-own : goal.returns-clause-own
returns-clause-own c = search rules
