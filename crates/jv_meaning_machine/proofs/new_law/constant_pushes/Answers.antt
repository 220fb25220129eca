use Rattle.jv_meaning_machine.proofs.NewObjects.{constant_pushes}
use Rattle.jv_meaning_machine.proofs.new_law.constant_pushes.Goals as goal

pub returns : goal.returns
returns c = constant_pushes
