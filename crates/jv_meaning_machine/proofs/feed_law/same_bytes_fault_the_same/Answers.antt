use Rattle.jv_meaning_machine.proofs.Fed.{same_bytes_fault_the_same}
use Rattle.jv_meaning_machine.proofs.feed_law.same_bytes_fault_the_same.Goals as goal

pub returns : goal.returns
returns c = same_bytes_fault_the_same
