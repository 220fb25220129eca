use Rattle.std.proofs.Common.{rules}
use Rattle.jv_lookups.proofs.searching.searched_from.Goals as goal

pub returns-clause-found : goal.returns-clause-found
returns-clause-found c = search rules
