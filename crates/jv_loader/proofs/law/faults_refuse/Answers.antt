use Rattle.jv_loader.proofs.Refusing.{faults_refuse}
use Rattle.jv_loader.proofs.law.faults_refuse.Goals as goal

pub returns : goal.returns
returns c = faults_refuse c.one_content.ensures
