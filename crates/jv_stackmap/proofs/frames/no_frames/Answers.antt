use Rattle.std.proofs.Common.{rules}
use Rattle.jv_stackmap.proofs.frames.no_frames.Goals as goal

pub returns : goal.returns
returns c = search rules
