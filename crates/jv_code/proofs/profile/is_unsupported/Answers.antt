use Rattle.std.proofs.Common.{◌∙◌, arith}
use Rattle.jv_code.proofs.Tables.{outside_is}
use Rattle.jv_code.proofs.profile.is_unsupported.Goals as goal

pub returns : goal.returns
returns c = c.is_outside.ensures ∙ outside_is c.args.opcode (omega arith)
