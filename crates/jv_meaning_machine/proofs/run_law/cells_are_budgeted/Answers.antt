use Rattle.jv_meaning_machine.proofs.KeptAlone.{cells_are_budgeted}
use Rattle.jv_meaning_machine.proofs.run_law.cells_are_budgeted.Goals as goal

pub returns : goal.returns
returns c = cells_are_budgeted
