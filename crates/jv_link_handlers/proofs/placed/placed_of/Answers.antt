use Rattle.jv_link_handlers.proofs.Least.{placed_more}
use Rattle.jv_link_handlers.proofs.placed.placed_of.Goals as goal

pub loop-k-preserved : goal.loop-k-preserved
loop-k-preserved c = placed_more _ c.args.reaches.now _ _ _ c.loop-k-test.true c.loop-k.invariant c.in_ok-push.ensures.items
