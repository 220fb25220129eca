use Rattle.jv_interp_members.specs.Known.{known}
use Rattle.jv_interp_instructions.proofs.AllInstructions.{settled}
use Rattle.jv_interp_instructions.proofs.Grown.{executed_on_words}
use Rattle.jv_interp_instructions.proofs.families.DivisionsExecution.execute.Goals as goal

pub returns-in-Division-clause-done : goal.returns-in-Division-clause-done
returns-in-Division-clause-done g c =
    rw c.in-Division.is (settled _ _ _ _ _ _ _ _
    (executed_on_words c.execution_keeps.ensures _ _ (known c.args.classes.now.world c.args.linked.now c.args.site) c.args.texts.now.names _ _ _ _ _ _ _ c.execute_division.ensures.done))
