use Rattle.std.proofs.Common.{rules}
use Rattle.jv_class_structure.proofs.members.handlers_at.Goals as goal

pub returns : goal.returns
returns c = search rules
