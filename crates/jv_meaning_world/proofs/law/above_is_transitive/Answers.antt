use Rattle.jv_meaning_world.proofs.Up.{above_is_transitive}
use Rattle.jv_meaning_world.proofs.law.above_is_transitive.Goals as goal

pub returns : goal.returns
returns c = above_is_transitive
