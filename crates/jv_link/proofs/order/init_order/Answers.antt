use Rattle.std.proofs.Common.{subst}
use Rattle.jv_meaning_world.specs.Numbers.{HoldsAtNumber}
use Rattle.jv_link.specs.Orders.{IsOrder}
use Rattle.jv_link.proofs.order.init_order.Goals as goal

pub returns : goal.returns
returns c = subst (λ w. HoldsAtNumber w c.args.class (IsOrder w c.in_ok-order_in.field-0.items)) c.table.ensures c.in_ok-order_in.ensures
