use Rattle.jv_meaning_world.proofs.Order.{below_is_transitive}
use Rattle.jv_meaning_world.proofs.order_law.below_is_transitive.Goals as goal

pub returns : goal.returns
returns c = below_is_transitive
