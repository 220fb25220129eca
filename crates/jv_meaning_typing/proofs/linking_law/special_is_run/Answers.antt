use Rattle.jv_meaning_typing.proofs.Run.{special_is_run}
use Rattle.jv_meaning_typing.proofs.linking_law.special_is_run.Goals as goal

pub returns : goal.returns
returns c = special_is_run c.above_by_ways.ensures c.above_is_transitive.ensures
