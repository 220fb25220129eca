use Rattle.jv_meaning_machine.proofs.StepDoes.{step_acts}
use Rattle.jv_meaning_machine.proofs.step_law.step_acts.Goals as goal

pub returns : goal.returns
returns c = step_acts
