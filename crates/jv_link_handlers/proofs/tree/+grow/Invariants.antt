use Rattle.std.proofs.Common.{◌-◌}
use Rattle.jv_link_handlers.proofs.tree.+grow.Given as goal

abbrev pub decreases-grow : goal.decreases-grow
decreases-grow l = l.high - l.low
