use Rattle.std.proofs.Common.{rules}
use Rattle.jv_classes.proofs.list.ClassList.count.Goals as goal

pub returns : goal.returns
returns c = search rules
