use Rattle.jv_meaning_machine.proofs.Shown.{faults_show_nothing}
use Rattle.jv_meaning_machine.proofs.show_law.faults_show_nothing.Goals as goal

pub returns : goal.returns
returns c = faults_show_nothing c.one_judged.ensures
