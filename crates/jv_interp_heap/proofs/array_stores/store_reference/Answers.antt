use Rattle.std.proofs.Common.{rules}
use Rattle.jv_interp_heap.proofs.array_stores.store_reference.Goals as goal

pub returns-clause-tells : goal.returns-clause-tells
returns-clause-tells g c = search rules
