use Rattle.std.proofs.Common.{rules}
use Rattle.jv_store.proofs.blocks.BlocksStore.reserve.Goals as goal

pub returns-clause-ok : goal.returns-clause-ok
returns-clause-ok c = search rules
