use Rattle.jv_meaning_machine.proofs.KeptAlone.{words_are_budgeted}
use Rattle.jv_meaning_machine.proofs.run_law.words_are_budgeted.Goals as goal

pub returns : goal.returns
returns c = words_are_budgeted
