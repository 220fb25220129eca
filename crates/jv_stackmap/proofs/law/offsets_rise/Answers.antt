use Rattle.jv_stackmap.proofs.Rising.{OffsetsRise-holds}
use Rattle.jv_stackmap.proofs.law.offsets_rise.Goals as goal

pub returns : goal.returns
returns c = OffsetsRise-holds
