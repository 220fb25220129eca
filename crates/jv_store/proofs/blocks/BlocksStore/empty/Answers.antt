use Rattle.std.proofs.Common.{rules}
use Rattle.jv_store.proofs.blocks.BlocksStore.empty.Goals as goal

pub returns-clause-room : goal.returns-clause-room
returns-clause-room c = search rules
