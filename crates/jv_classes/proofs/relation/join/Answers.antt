use Rattle.std.proofs.Common.{rules}
use Rattle.jv_classes.proofs.relation.join.Goals as goal

pub loop-to-preserved : goal.loop-to-preserved
loop-to-preserved c = search rules
