use Rattle.jv_meaning_machine.proofs.Forward.{erroneous_stays}
use Rattle.jv_meaning_machine.proofs.forward_law.erroneous_stays.Goals as goal

pub returns : goal.returns
returns c = erroneous_stays
