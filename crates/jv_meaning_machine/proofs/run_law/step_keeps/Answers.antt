use Rattle.jv_meaning_machine.proofs.KeptSteps.{step_kept}
use Rattle.jv_meaning_machine.proofs.run_law.step_keeps.Goals as goal

pub returns : goal.returns
returns c = step_kept
