use Rattle.jv_meaning_world.specs.Numbers.{AreNumbers}
use Rattle.jv_link.proofs.Defaulting.{IsDefaultLeft}
use Rattle.jv_link.proofs.order.add_defaults.Given as goal

abbrev pub invariant-loop-interface : goal.invariant-loop-interface
invariant-loop-interface l = IsDefaultLeft l.table l.initial.order.items l.interfaces l.interface-index l.order.items × AreNumbers l.table l.order.items
