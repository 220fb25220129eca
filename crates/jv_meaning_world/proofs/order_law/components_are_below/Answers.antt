use Rattle.jv_meaning_world.proofs.Order.{components_are_below}
use Rattle.jv_meaning_world.proofs.order_law.components_are_below.Goals as goal

pub returns : goal.returns
returns c = components_are_below
