use Rattle.jv_meaning_machine.proofs.Fed.{alone_goes_on}
use Rattle.jv_meaning_machine.proofs.run_law.alone_goes_on.Goals as goal

pub returns : goal.returns
returns c = alone_goes_on
