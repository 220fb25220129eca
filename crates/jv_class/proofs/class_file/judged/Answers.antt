use Rattle.std.proofs.Common.{rules}
use Rattle.jv_class.proofs.class_file.judged.Goals as goal

pub returns-then-not-is_supported-clause-format : goal.returns-then-not-is_supported-clause-format
returns-then-not-is_supported-clause-format c = search rules
