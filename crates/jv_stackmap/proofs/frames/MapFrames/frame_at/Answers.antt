use Rattle.std.proofs.lemmas.Grind.{common_steps}
use Rattle.std.proofs.lemmas.Grind.{elements}
use Rattle.std.proofs.Common.{arith}
use Rattle.jv_stackmap.proofs.frames.MapFrames.frame_at.Goals as goal

pub returns : goal.returns
returns c = grind (arith, elements)

pub index-requires : goal.index-requires
index-requires c = grind (arith, common_steps)
