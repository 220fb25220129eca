use Rattle.jv_meaning_machine.proofs.KeptSteps.{after_kept}
use Rattle.jv_meaning_machine.proofs.run_law.run_keeps.Goals as goal

pub returns : goal.returns
returns c = after_kept
