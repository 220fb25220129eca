use Rattle.std.proofs.Common.{rules}
use Rattle.jv_pool.proofs.table.Table.member.Goals as goal

pub returns-in-Some-Some : goal.returns-in-Some-Some
returns-in-Some-Some c = search rules
