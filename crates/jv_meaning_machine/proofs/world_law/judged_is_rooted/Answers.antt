use Rattle.jv_meaning_machine.proofs.Rooting.{judged_is_rooted}
use Rattle.jv_meaning_machine.proofs.world_law.judged_is_rooted.Goals as goal

pub returns : goal.returns
returns c = judged_is_rooted
