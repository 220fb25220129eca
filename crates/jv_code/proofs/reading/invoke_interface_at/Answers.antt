use Rattle.std.proofs.Common.{refl}
use Rattle.jv_code.proofs.reading.invoke_interface_at.Goals as goal

pub returns : goal.returns
returns c = rw c.in-Some.ensures (rw c.in-Some-count_at.ensures refl)
