use Rattle.jv_interp_instructions.proofs.FieldsUsed.{put}
use Rattle.jv_interp_instructions.proofs.fields.execute_putfield.Goals as goal

pub returns-clause-done : goal.returns-clause-done
returns-clause-done g c = λ texts.
    put c.execution_keeps.ensures _ _ _ texts _ _ _ _ _ _ _ _ c.putfield.ensures.puts
