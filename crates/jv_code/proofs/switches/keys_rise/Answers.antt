use Rattle.std.proofs.Common.{rules}
use Rattle.jv_code.proofs.switches.keys_rise.Goals as goal

pub loop-next-preserved : goal.loop-next-preserved
loop-next-preserved c = search rules
