use Rattle.std.proofs.Common.{rules}
use Rattle.jv_program_base.proofs.verdict.reason_name.Goals as goal

pub returns-in-Version : goal.returns-in-Version
returns-in-Version c = search rules
