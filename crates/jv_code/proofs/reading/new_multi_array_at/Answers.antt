use Rattle.std.proofs.Common.{refl}
use Rattle.jv_code.proofs.reading.new_multi_array_at.Goals as goal

pub returns : goal.returns
returns c = rw c.in-Some.ensures (rw c.in-Some-dimensions_at.ensures refl)
