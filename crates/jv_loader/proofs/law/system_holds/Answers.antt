use Rattle.jv_loader.proofs.Standing.{system_holds}
use Rattle.jv_loader.proofs.law.system_holds.Goals as goal

pub returns : goal.returns
returns c = system_holds (record { types = c.types_agree.ensures; code = c.code_is_supported.ensures; written = c.written_reads_back.ensures })
