use Rattle.std.proofs.Common.{rules}
use Rattle.jv_format.proofs.bytes_at.Goals as goal

pub returns-then-bytes-count : goal.returns-then-bytes-count
returns-then-bytes-count c = search rules
