use Rattle.jv_interp_objects.proofs.InTexts.{one_unknown}
use Rattle.jv_interp_objects.proofs.texts.unknown.Goals as goal

pub loop-preserved : goal.loop-preserved
loop-preserved c texts pool = rw c.in_ok-push.ensures.items (one_unknown texts pool c.loop.entries.items (c.loop.invariant texts pool))
