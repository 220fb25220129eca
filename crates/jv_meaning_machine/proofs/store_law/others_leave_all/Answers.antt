use Rattle.jv_meaning_machine.proofs.KeptInstructions.{others_leave_all}
use Rattle.jv_meaning_machine.proofs.store_law.others_leave_all.Goals as goal

pub returns : goal.returns
returns c = others_leave_all
