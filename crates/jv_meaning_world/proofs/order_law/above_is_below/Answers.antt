use Rattle.jv_meaning_world.proofs.OrderAbove.{above_is_below}
use Rattle.jv_meaning_world.proofs.order_law.above_is_below.Goals as goal

pub returns : goal.returns
returns c = above_is_below
