use Rattle.jv_stackmap.proofs.Mapped.{OneMaps-holds}
use Rattle.jv_stackmap.proofs.law.one_maps.Goals as goal

pub returns : goal.returns
returns c = OneMaps-holds
