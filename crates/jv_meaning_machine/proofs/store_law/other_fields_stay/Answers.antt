use Rattle.jv_meaning_machine.proofs.Stores.{other_fields_stay}
use Rattle.jv_meaning_machine.proofs.store_law.other_fields_stay.Goals as goal

pub returns : goal.returns
returns c = other_fields_stay
