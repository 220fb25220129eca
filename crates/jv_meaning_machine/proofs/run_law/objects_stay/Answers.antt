use Rattle.jv_meaning_machine.proofs.KeptAlone.{objects_stay}
use Rattle.jv_meaning_machine.proofs.run_law.objects_stay.Goals as goal

pub returns : goal.returns
returns c = objects_stay
