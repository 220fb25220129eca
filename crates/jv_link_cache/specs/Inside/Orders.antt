-- What is initialized before each class, one class behind the other (JVMS 5.5).
use Rattle.std.specs.Prelude.{ℕ, List}
use Rattle.jv_meaning_world.specs.World.{World}
use Rattle.jv_link_cache.specs.declared.orders.ClassOrder.{ClassOrder}
use Rattle.jv_link_cache.specs.Inside.Each.{Each}
use Rattle.jv_link_cache.specs.Tasks.{IsOrderOf}

abbrev pub IsOrderAt : World → ℕ → ClassOrder → Type 0
IsOrderAt world class order = IsOrderOf world class order.numbers.items

-- of so many classes
abbrev pub AreOrders : World → ℕ → List ClassOrder → Type 0
AreOrders world count orders = Each (IsOrderAt world) count orders
