use Rattle.std.proofs.Common.{rules}
use Rattle.jv_program_base.proofs.failure.Failure.status.Goals as goal

pub returns-in-HostMemory : goal.returns-in-HostMemory
returns-in-HostMemory c = search rules

pub returns-in-HostMemory-2 : goal.returns-in-HostMemory-2
returns-in-HostMemory-2 c = search rules
