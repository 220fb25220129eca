use Rattle.jv_meaning_typing.proofs.ByRule.{overriding_is_by_rule}
use Rattle.jv_meaning_typing.proofs.linking_law.overriding_is_by_rule.Goals as goal

pub returns : goal.returns
returns c = overriding_is_by_rule
