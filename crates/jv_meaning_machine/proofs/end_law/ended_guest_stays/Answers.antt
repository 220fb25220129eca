use Rattle.jv_meaning_machine.proofs.Ends.{ended_guest_stays}
use Rattle.jv_meaning_machine.proofs.end_law.ended_guest_stays.Goals as goal

pub returns : goal.returns
returns c = ended_guest_stays
