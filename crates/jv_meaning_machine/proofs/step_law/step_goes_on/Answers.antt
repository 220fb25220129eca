use Rattle.jv_meaning_machine.proofs.StepDoes.{step_goes_on}
use Rattle.jv_meaning_machine.proofs.step_law.step_goes_on.Goals as goal

pub returns : goal.returns
returns c = step_goes_on
