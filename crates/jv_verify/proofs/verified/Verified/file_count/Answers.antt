use Rattle.std.proofs.Common.{rules}
use Rattle.jv_verify.proofs.verified.Verified.file_count.Goals as goal

pub returns : goal.returns
returns c = search rules
