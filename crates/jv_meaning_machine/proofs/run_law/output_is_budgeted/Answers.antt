use Rattle.jv_meaning_machine.proofs.KeptAlone.{output_is_budgeted}
use Rattle.jv_meaning_machine.proofs.run_law.output_is_budgeted.Goals as goal

pub returns : goal.returns
returns c = output_is_budgeted
