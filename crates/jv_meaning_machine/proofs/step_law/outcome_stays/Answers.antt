use Rattle.jv_meaning_machine.proofs.StepDoes.{outcome_stays}
use Rattle.jv_meaning_machine.proofs.step_law.outcome_stays.Goals as goal

pub returns : goal.returns
returns c = outcome_stays
