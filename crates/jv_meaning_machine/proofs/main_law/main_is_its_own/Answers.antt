use Rattle.jv_meaning_machine.proofs.Mains.{main_is_its_own}
use Rattle.jv_meaning_machine.proofs.main_law.main_is_its_own.Goals as goal

pub returns : goal.returns
returns c = main_is_its_own
