use Rattle.std.proofs.Common.{rules}
use Rattle.jv_verify.proofs.methods.check_methods.Goals as goal

pub check_shown-requires-clause-file : goal.check_shown-requires-clause-file
check_shown-requires-clause-file c = search rules
