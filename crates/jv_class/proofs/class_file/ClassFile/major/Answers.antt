use Rattle.std.proofs.Common.{rules}
use Rattle.jv_class.proofs.class_file.ClassFile.major.Goals as goal

pub returns : goal.returns
returns c = search rules
