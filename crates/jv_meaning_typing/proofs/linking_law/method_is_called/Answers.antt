use Rattle.jv_meaning_typing.proofs.Resolved.{method_is_called}
use Rattle.jv_meaning_typing.proofs.linking_law.method_is_called.Goals as goal

pub returns : goal.returns
returns c = method_is_called c.above_by_ways.ensures c.above_is_transitive.ensures
