use Rattle.jv_sound.proofs.NeverFaults.{initializations_are_loadable}
use Rattle.jv_sound.proofs.law.initializations_are_loadable.Goals as goal

pub returns : goal.returns
returns c = initializations_are_loadable c.types_agree.ensures c.one_list.ensures c.next_starts.ensures c.stands_in_list.ensures
