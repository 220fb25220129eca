use Rattle.jv_link_cache.proofs.Inherited.{words_are_inherited}
use Rattle.jv_link_cache.proofs.law.words_are_inherited.Goals as goal

pub returns : goal.returns
returns c = words_are_inherited c.above_by_ways.ensures c.above_is_transitive.ensures c.layout_extends.ensures
