use Rattle.std.proofs.Common.{rules}
use Rattle.jv_class_structure.proofs.attributes.value_at.Goals as goal

pub returns-in-None : goal.returns-in-None
returns-in-None c = search rules

pub returns-in-Some-index_in : goal.returns-in-Some-index_in
returns-in-Some-index_in c = search rules
