use Rattle.std.proofs.Common.{arith}
use Rattle.std.proofs.lemmas.Grind.{elements}
use Rattle.jv_pool.proofs.table.Table.constant.Goals as goal

pub returns : goal.returns
returns c = grind (arith, elements)
