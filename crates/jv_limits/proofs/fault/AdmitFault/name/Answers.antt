use Rattle.std.proofs.Common.{rules}
use Rattle.jv_limits.proofs.fault.AdmitFault.name.Goals as goal

pub returns-in-FileTooLong : goal.returns-in-FileTooLong
returns-in-FileTooLong c = search rules
