use Rattle.jv_meaning_machine.proofs.Contents.{stored_is_there}
use Rattle.jv_meaning_machine.proofs.store_law.stored_is_there.Goals as goal

pub returns : goal.returns
returns c = stored_is_there
