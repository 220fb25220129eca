use Rattle.jv_class.proofs.Classes.{one_of_each}
use Rattle.jv_class.proofs.law.one_of_each_name.Goals as goal

pub returns : goal.returns
returns c = one_of_each
