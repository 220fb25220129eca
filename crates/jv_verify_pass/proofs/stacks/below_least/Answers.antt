use Rattle.std.proofs.Common.{sym, arith}
use Rattle.jv_verify_pass.proofs.ObjectsBelow.{stays_below}
use Rattle.jv_verify_pass.proofs.stacks.below_least.Goals as goal

pub returns-then-lowest-least : goal.returns-then-lowest-least
returns-then-lowest-least c =
    sym (stays_below c.args.objects.now 65535 c.args.places.now c.args.lowest (omega (arith, c.requires, c.if-lowest-least.true)))
