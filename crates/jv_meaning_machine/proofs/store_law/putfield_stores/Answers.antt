use Rattle.jv_meaning_machine.proofs.StoreInstructions.{putfield_stores}
use Rattle.jv_meaning_machine.proofs.store_law.putfield_stores.Goals as goal

pub returns : goal.returns
returns c = putfield_stores
