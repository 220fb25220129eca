use Rattle.std.proofs.Common.{rules}
use Rattle.jv_classes.proofs.host_io.kept_of_io.Goals as goal

pub returns : goal.returns
returns c = search rules
