use Rattle.jv_code.proofs.OperandLaws.{bytes_join}
use Rattle.jv_code.proofs.law.bytes_join.Goals as goal

pub returns : goal.returns
returns c = bytes_join
