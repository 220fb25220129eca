use Rattle.jv_meaning_machine.proofs.Ends.{end_fits_alone}
use Rattle.jv_meaning_machine.proofs.end_law.end_fits_alone.Goals as goal

pub returns : goal.returns
returns c = end_fits_alone
