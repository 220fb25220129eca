use Rattle.std.proofs.Common.{inr}
use Rattle.jv_verify_pass.proofs.stacks.FlowedStacks.keep.Goals as goal

pub returns : goal.returns
returns c = inr (c.in-Ok.objects, c.in-Ok-push.ensures.items, c.in-Ok.ensures)
