use Rattle.jv_meaning_world.proofs.Up.{above_by_ways}
use Rattle.jv_meaning_world.proofs.law.above_by_ways.Goals as goal

pub returns : goal.returns
returns c = above_by_ways
