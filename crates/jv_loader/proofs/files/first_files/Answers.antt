use Rattle.std.proofs.Common.{rules}
use Rattle.jv_loader.proofs.files.first_files.Goals as goal

pub returns : goal.returns
returns c = search rules
