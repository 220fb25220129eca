use Rattle.jv_meaning_typing.proofs.OneWalk.{overriding_in_one_walk}
use Rattle.jv_meaning_typing.proofs.linking_law.overriding_in_one_walk.Goals as goal

pub returns : goal.returns
returns c = overriding_in_one_walk
