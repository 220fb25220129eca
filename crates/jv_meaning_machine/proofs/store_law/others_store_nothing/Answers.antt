use Rattle.jv_meaning_machine.proofs.KeptInstructions.{others_store_nothing}
use Rattle.jv_meaning_machine.proofs.store_law.others_store_nothing.Goals as goal

pub returns : goal.returns
returns c = others_store_nothing
