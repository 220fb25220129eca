use Rattle.jv_meaning_world.proofs.Order.{below_is_kept}
use Rattle.jv_meaning_world.proofs.order_law.below_is_kept.Goals as goal

pub returns : goal.returns
returns c = below_is_kept
