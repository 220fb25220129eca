use Rattle.std.proofs.Common.{rules}
use Rattle.jv_class_structure.proofs.attributes.index_in.Goals as goal

pub returns-in-Some-default-empty : goal.returns-in-Some-default-empty
returns-in-Some-default-empty c = search rules
