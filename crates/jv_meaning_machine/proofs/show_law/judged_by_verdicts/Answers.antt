use Rattle.jv_meaning_machine.proofs.Shown.{judged_by_verdicts}
use Rattle.jv_meaning_machine.proofs.show_law.judged_by_verdicts.Goals as goal

pub returns : goal.returns
returns c = judged_by_verdicts
