use Rattle.jv_meaning_world.proofs.OrderAbove.{array_below_class}
use Rattle.jv_meaning_world.proofs.order_law.array_below_class.Goals as goal

pub returns : goal.returns
returns c = array_below_class
