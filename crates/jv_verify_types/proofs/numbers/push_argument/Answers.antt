use Rattle.std.proofs.Common.{rules}
use Rattle.jv_verify_types.proofs.numbers.push_argument.Goals as goal

pub returns-clause-joins : goal.returns-clause-joins
returns-clause-joins c = search rules
