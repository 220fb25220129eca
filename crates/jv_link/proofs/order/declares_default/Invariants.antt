use Rattle.std.specs.List.{list_any}
use Rattle.std.proofs.Common.{◌≡◌, drop}
use Rattle.jv_meaning_world.specs.Numbers.{HoldsAtNumber}
use Rattle.jv_meaning_typing.specs.InitializationOrder.{is_default, declares_default}
use Rattle.jv_link.proofs.order.declares_default.Given as goal

abbrev pub invariant-loop-member : goal.invariant-loop-member
invariant-loop-member l = HoldsAtNumber l.table l.class (λ m. list_any is_default (drop l.member m.class.methods) ≡ declares_default m)
