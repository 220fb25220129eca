use Rattle.jv_meaning_machine.proofs.Forward.{throws_never_fall}
use Rattle.jv_meaning_machine.proofs.forward_law.throws_never_fall.Goals as goal

pub returns : goal.returns
returns c = throws_never_fall
