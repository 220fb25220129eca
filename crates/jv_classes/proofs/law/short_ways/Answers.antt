use Rattle.jv_classes.proofs.RelationWays.{short_ways}
use Rattle.jv_classes.proofs.law.short_ways.Goals as goal

pub returns : goal.returns
returns c = short_ways
