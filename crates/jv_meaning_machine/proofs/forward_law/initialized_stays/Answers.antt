use Rattle.jv_meaning_machine.proofs.Forward.{initialized_stays}
use Rattle.jv_meaning_machine.proofs.forward_law.initialized_stays.Goals as goal

pub returns : goal.returns
returns c = initialized_stays
