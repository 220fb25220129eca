use Rattle.jv_class_structure.proofs.Whole.{OneBehindVersion-holds}
use Rattle.jv_class_structure.proofs.law.one_behind_version.Goals as goal

pub returns : goal.returns
returns c = OneBehindVersion-holds c.one_pool.ensures
