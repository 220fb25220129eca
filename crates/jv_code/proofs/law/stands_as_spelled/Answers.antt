use Rattle.jv_code.proofs.OperandLaws.{stands_as_spelled}
use Rattle.jv_code.proofs.law.stands_as_spelled.Goals as goal

pub returns : goal.returns
returns c = stands_as_spelled
