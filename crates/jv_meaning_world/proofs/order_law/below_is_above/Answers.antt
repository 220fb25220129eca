use Rattle.jv_meaning_world.proofs.OrderAbove.{below_is_above}
use Rattle.jv_meaning_world.proofs.order_law.below_is_above.Goals as goal

pub returns : goal.returns
returns c = below_is_above
