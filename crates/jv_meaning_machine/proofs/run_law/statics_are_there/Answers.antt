use Rattle.jv_meaning_machine.proofs.Statics.{statics_are_there}
use Rattle.jv_meaning_machine.proofs.run_law.statics_are_there.Goals as goal

pub returns : goal.returns
returns c = statics_are_there
