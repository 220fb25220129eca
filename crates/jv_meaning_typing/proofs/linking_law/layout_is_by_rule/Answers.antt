use Rattle.jv_meaning_typing.proofs.Places.{layout_is_by_rule}
use Rattle.jv_meaning_typing.proofs.linking_law.layout_is_by_rule.Goals as goal

pub returns : goal.returns
returns c = layout_is_by_rule
