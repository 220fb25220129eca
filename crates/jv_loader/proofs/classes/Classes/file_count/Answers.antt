use Rattle.std.proofs.Common.{rules}
use Rattle.jv_loader.proofs.classes.Classes.file_count.Goals as goal

pub returns : goal.returns
returns c = search rules
