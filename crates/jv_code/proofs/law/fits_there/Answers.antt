use Rattle.jv_code.proofs.StartLaws.{FitsThere-holds}
use Rattle.jv_code.proofs.law.fits_there.Goals as goal

pub returns : goal.returns
returns c = FitsThere-holds
