use Rattle.std.proofs.lemmas.Grind.{common_steps}
use Rattle.std.proofs.Common.{arith}
use Rattle.jv_program_run.specs.Report.{output_text}
use Rattle.jv_program_run.proofs.report.OutputDisplay.fmt.Goals as goal

pub returns-clause-writes : goal.returns-clause-writes
unfolding output_text
returns-clause-writes g c = grind (arith, common_steps)

pub returns-then-len-eq0-clause-writes : goal.returns-then-len-eq0-clause-writes
unfolding output_text
returns-then-len-eq0-clause-writes g c = grind (arith, common_steps)
