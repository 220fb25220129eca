use Rattle.jv_meaning_machine.proofs.StoreInstructions.{array_store_stores}
use Rattle.jv_meaning_machine.proofs.store_law.array_store_stores.Goals as goal

pub returns : goal.returns
returns c = array_store_stores
