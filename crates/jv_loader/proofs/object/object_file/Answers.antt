use Rattle.std.proofs.Common.{rules}
use Rattle.jv_loader.proofs.object.object_file.Goals as goal

pub returns : goal.returns
returns c = search rules
