use Rattle.std.proofs.Common.{rules}
use Rattle.jv_loader.proofs.string.string_file.Goals as goal

pub returns : goal.returns
returns c = search rules
