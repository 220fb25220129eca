use Rattle.jv_meaning_world.proofs.Order.{flows_to_object}
use Rattle.jv_meaning_world.proofs.order_law.flows_to_object.Goals as goal

pub returns : goal.returns
returns c = flows_to_object
