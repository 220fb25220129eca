use Rattle.jv_meaning_machine.proofs.KeptAlone.{output_grows}
use Rattle.jv_meaning_machine.proofs.run_law.output_grows.Goals as goal

pub returns : goal.returns
returns c = output_grows
