use Rattle.jv_meaning_typing.proofs.Enumerated.{init_order_is_by_rule}
use Rattle.jv_meaning_typing.proofs.linking_law.init_order_is_by_rule.Goals as goal

pub returns : goal.returns
returns c = init_order_is_by_rule c.above_by_ways.ensures c.above_is_transitive.ensures
