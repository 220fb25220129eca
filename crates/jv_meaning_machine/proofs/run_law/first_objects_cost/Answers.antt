use Rattle.jv_meaning_machine.proofs.KeptAlone.{first_objects_cost}
use Rattle.jv_meaning_machine.proofs.run_law.first_objects_cost.Goals as goal

pub returns : goal.returns
returns c = first_objects_cost
