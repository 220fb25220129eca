use Rattle.jv_interp_instructions.proofs.FieldsUsed.{got}
use Rattle.jv_interp_instructions.proofs.fields.execute_getfield.Goals as goal

pub returns-clause-done : goal.returns-clause-done
returns-clause-done g c = λ texts.
    got c.execution_keeps.ensures _ _ _ texts _ _ _ _ _ _ _ _ c.getfield.ensures.uses
