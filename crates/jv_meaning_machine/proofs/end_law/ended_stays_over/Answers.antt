use Rattle.jv_meaning_machine.proofs.Ended.{ended_stays_over}
use Rattle.jv_meaning_machine.proofs.end_law.ended_stays_over.Goals as goal

pub returns : goal.returns
returns c = ended_stays_over
