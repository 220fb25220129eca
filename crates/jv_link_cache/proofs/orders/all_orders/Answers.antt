use Rattle.jv_link_cache.specs.Inside.Orders.{IsOrderAt}
use Rattle.jv_link_cache.proofs.Eachwise.{each_goes_on}
use Rattle.jv_link_cache.proofs.orders.all_orders.Goals as goal

pub loop-class-preserved : goal.loop-class-preserved
loop-class-preserved c =
    rw c.in_ok-push.ensures.items
    (each_goes_on (IsOrderAt c.args.table.now) c.loop-class.class c.loop-class.orders.items (record { numbers = c.in_ok-numbers.numbers }) c.in_ok-numbers.ensures c.loop-class.invariant)
