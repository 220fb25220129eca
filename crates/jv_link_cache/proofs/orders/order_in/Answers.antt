use Rattle.std.proofs.Common.{sym, subst, length}
use Rattle.jv_link_cache.specs.Inside.Orders.{IsOrderAt}
use Rattle.jv_link_cache.specs.Tasks.{IsOrderOf}
use Rattle.jv_link_cache.proofs.Eachwise.{each_found, none_beyond_each}
use Rattle.jv_link_cache.proofs.orders.order_in.Goals as goal

pub returns-then-class-orders : goal.returns-then-class-orders
returns-then-class-orders c = λ world are.
    subst (IsOrderOf world c.args.class) (sym c.deref.ensures.value)
    (each_found (IsOrderAt world) (length world) c.args.orders.now c.args.class c.index-orders-class.result are c.if-class-orders.true)

pub returns-else-class-orders : goal.returns-else-class-orders
returns-else-class-orders c = λ world are l at. absurd (none_beyond_each (IsOrderAt world) c.args.orders.now world c.args.class l are c.if-class-orders.false at)
