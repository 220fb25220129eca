use Rattle.std.proofs.Common.{rules}
use Rattle.jv_class_structure.proofs.attributes.contents_at.Goals as goal

pub returns : goal.returns
returns c = search rules
