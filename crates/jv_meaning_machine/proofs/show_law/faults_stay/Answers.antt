use Rattle.jv_meaning_machine.proofs.Shown.{faults_stay}
use Rattle.jv_meaning_machine.proofs.show_law.faults_stay.Goals as goal

pub returns : goal.returns
returns c = faults_stay
