use Rattle.jv_text.proofs.TypesOf.{agree}
use Rattle.jv_text.proofs.types_agree.Goals as goal

pub returns : goal.returns
returns c = agree
