use Rattle.jv_class.proofs.Whole.{structure_law}
use Rattle.jv_class.proofs.law.one_structure.Goals as goal

pub returns : goal.returns
returns c = structure_law c.one_behind_version.ensures
