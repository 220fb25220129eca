use Rattle.jv_meaning_machine.proofs.StoreInstructions.{reference_array_store_stores}
use Rattle.jv_meaning_machine.proofs.store_law.reference_array_store_stores.Goals as goal

pub returns : goal.returns
returns c = reference_array_store_stores
