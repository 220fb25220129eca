use Rattle.std.proofs.Common.{length, map}
use Rattle.jv_classes.specs.Inside.Seen.{declares, kept_text}
use Rattle.jv_classes.proofs.Linked.{IsOnWay}
use Rattle.jv_classes.proofs.members.first_of.Given as goal

abbrev pub invariant-loop-end : goal.invariant-loop-end
invariant-loop-end l = IsOnWay l.seed (length l.ends) (declares l.name l.descriptor) (map kept_text l.texts) l.members l.slot l.end l.found

abbrev pub decreases-loop-end : goal.decreases-loop-end
decreases-loop-end l = l.end
