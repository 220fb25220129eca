use Rattle.std.proofs.Common.{rules}
use Rattle.jv_class_structure.proofs.parts.Parts.super_class.Goals as goal

pub returns : goal.returns
returns c = search rules
