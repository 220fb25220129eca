use Rattle.jv_meaning_typing.proofs.Upward.{overriding_upward}
use Rattle.jv_meaning_typing.proofs.linking_law.overriding_upward.Goals as goal

pub returns : goal.returns
returns c = overriding_upward
