use Rattle.jv_meaning_machine.proofs.NewObjects.{new_multi_array_makes}
use Rattle.jv_meaning_machine.proofs.new_law.new_multi_array_makes.Goals as goal

pub returns : goal.returns
returns c = new_multi_array_makes
