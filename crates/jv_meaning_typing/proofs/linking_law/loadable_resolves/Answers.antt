use Rattle.jv_meaning_typing.proofs.Loading.{loadable_resolves}
use Rattle.jv_meaning_typing.proofs.linking_law.loadable_resolves.Goals as goal

pub returns : goal.returns
returns c = loadable_resolves c.above_by_ways.ensures c.above_is_transitive.ensures c.loadable_by_all.ensures
