use Rattle.jv_meaning_world.proofs.Standing.{loadable_by_all}
use Rattle.jv_meaning_world.proofs.law.loadable_by_all.Goals as goal

pub returns : goal.returns
returns c = loadable_by_all
