use Rattle.jv_interp_instructions.proofs.AllInstructions.{settled}
use Rattle.jv_interp_held.proofs.Unmoved.{stays_unmoved}
use Rattle.jv_interp_instructions.proofs.families.InterfaceCallsExecution.execute.Goals as goal

pub returns-in-InvokeInterface-clause-done : goal.returns-in-InvokeInterface-clause-done
returns-in-InvokeInterface-clause-done g c =
    rw c.in-InvokeInterface.is (settled _ _ _ _ _ _ _ _
    (c.execute_invokeinterface.ensures.done c.args.next c.in-InvokeInterface._count c.args.texts.now.names))

pub returns-in-InvokeInterface-clause-unmoved : goal.returns-in-InvokeInterface-clause-unmoved
returns-in-InvokeInterface-clause-unmoved g c = stays_unmoved c.execute_invokeinterface.result _
