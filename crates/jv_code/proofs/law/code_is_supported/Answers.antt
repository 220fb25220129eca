use Rattle.jv_code.proofs.Outside.{code_is_supported}
use Rattle.jv_code.proofs.law.code_is_supported.Goals as goal

pub returns : goal.returns
returns c = code_is_supported
