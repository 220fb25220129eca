use Rattle.jv_format.proofs.HandlersIn.{handlers_count}
use Rattle.std.proofs.Common.{arith}
use Rattle.jv_format.proofs.handlers.ExceptionTable.len.Goals as goal

pub returns : goal.returns
returns c = grind (arith, handlers_count)
