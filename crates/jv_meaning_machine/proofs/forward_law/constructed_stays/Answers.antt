use Rattle.jv_meaning_machine.proofs.Forward.{constructed_stays}
use Rattle.jv_meaning_machine.proofs.forward_law.constructed_stays.Goals as goal

pub returns : goal.returns
returns c = constructed_stays
