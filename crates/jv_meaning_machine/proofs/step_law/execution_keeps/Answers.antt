use Rattle.jv_meaning_machine.proofs.KeptInstructions.{execute_stored}
use Rattle.jv_meaning_machine.proofs.step_law.execution_keeps.Goals as goal

pub returns : goal.returns
returns c context insn memory effect e = ((execute_stored context insn).at (memory, effect) e).keeps
