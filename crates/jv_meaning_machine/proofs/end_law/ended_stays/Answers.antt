use Rattle.jv_meaning_machine.proofs.Ended.{ended_stays}
use Rattle.jv_meaning_machine.proofs.end_law.ended_stays.Goals as goal

pub returns : goal.returns
returns c = ended_stays
