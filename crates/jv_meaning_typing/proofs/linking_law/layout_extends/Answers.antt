use Rattle.jv_meaning_typing.proofs.Places.{layout_extends}
use Rattle.jv_meaning_typing.proofs.linking_law.layout_extends.Goals as goal

pub returns : goal.returns
returns c = layout_extends c.above_by_ways.ensures c.above_is_transitive.ensures
