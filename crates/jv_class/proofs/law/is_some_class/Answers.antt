use Rattle.jv_class.proofs.Classes.{some_class}
use Rattle.jv_class.proofs.law.is_some_class.Goals as goal

pub returns : goal.returns
returns c = some_class
