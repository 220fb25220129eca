use Rattle.std.proofs.Common.{rules}
use Rattle.jv_program_run.proofs.brought.brought_by.Goals as goal

pub returns : goal.returns
returns c = search rules
