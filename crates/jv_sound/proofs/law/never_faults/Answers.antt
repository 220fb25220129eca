use Rattle.jv_sound.proofs.NeverFaults.{never_faults}
use Rattle.jv_sound.proofs.law.never_faults.Goals as goal

pub returns : goal.returns
returns c = never_faults c.types_agree.ensures c.one_list.ensures c.next_starts.ensures c.stands_in_list.ensures
