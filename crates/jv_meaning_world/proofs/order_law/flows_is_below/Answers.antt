use Rattle.jv_meaning_world.proofs.Order.{flows_is_below}
use Rattle.jv_meaning_world.proofs.order_law.flows_is_below.Goals as goal

pub returns : goal.returns
returns c = flows_is_below
