use Rattle.jv_meaning_typing.proofs.Searched.{init_order_is_above}
use Rattle.jv_meaning_typing.proofs.linking_law.init_order_is_above.Goals as goal

pub returns : goal.returns
returns c = λ world l s h. init_order_is_above c.above_by_ways.ensures c.above_is_transitive.ensures world l s h
