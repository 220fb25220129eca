use Rattle.jv_text.proofs.Methods.{one_method}
use Rattle.jv_text.proofs.one_method.Goals as goal

pub returns : goal.returns
returns c = one_method
