use Rattle.std.proofs.Common.{refl}
use Rattle.jv_code.proofs.reading.local_at.Goals as goal

pub returns : goal.returns
returns c = rw c.in-Some.ensures (rw c.with_local-insn.ensures (rw c.from.ensures refl))
