use Rattle.jv_meaning_machine.proofs.StoreInstructions.{putstatic_stores}
use Rattle.jv_meaning_machine.proofs.store_law.putstatic_stores.Goals as goal

pub returns : goal.returns
returns c = putstatic_stores
