use Rattle.jv_link_cache.specs.Inside.Orders.{AreOrders}
use Rattle.jv_link_cache.proofs.orders.all_orders.Given as goal

abbrev pub invariant-loop-class : goal.invariant-loop-class
invariant-loop-class l = AreOrders l.table l.class l.orders.items
