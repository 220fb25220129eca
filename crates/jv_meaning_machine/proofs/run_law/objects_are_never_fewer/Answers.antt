use Rattle.jv_meaning_machine.proofs.KeptAlone.{never_fewer}
use Rattle.jv_meaning_machine.proofs.run_law.objects_are_never_fewer.Goals as goal

pub returns : goal.returns
returns c = never_fewer
