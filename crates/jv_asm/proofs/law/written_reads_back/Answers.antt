use Rattle.jv_asm.proofs.Back.{written_reads_back}
use Rattle.jv_asm.proofs.law.written_reads_back.Goals as goal

pub returns : goal.returns
returns c = written_reads_back
