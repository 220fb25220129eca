use Rattle.std.proofs.Common.{refl}
use Rattle.jv_link.proofs.Defaulting.{default_more}
use Rattle.jv_link.proofs.order.add_defaults.Goals as goal

pub loop-interface-preserved : goal.loop-interface-preserved
loop-interface-preserved c = (
  default_more c.args.table.now c.args.order.now.items c.args.interfaces.now c.loop-interface.order.items c.add_if_default.new.order.items
      c.loop-interface.interface-index _ c.loop-interface-test.true refl
      (c.requires.interfaces c.loop-interface.interface-index 0 c.loop-interface-test.true) c.in_ok-add_if_default.ensures.those c.loop-interface.invariant.0,
  c.in_ok-add_if_default.ensures.numbers,
)
