use Rattle.jv_interp_members.specs.Known.{known}
use Rattle.jv_interp_instructions.proofs.AllInstructions.{settled}
use Rattle.jv_interp_instructions.proofs.Done.{nothing_done}
use Rattle.jv_interp_instructions.proofs.Grown.{executed_on_words}
use Rattle.jv_interp_held.proofs.Unmoved.{stays_unmoved}
use Rattle.jv_interp_instructions.proofs.families.ReturnsExecution.execute.Goals as goal

pub returns-in-ReturnValue-clause-done : goal.returns-in-ReturnValue-clause-done
returns-in-ReturnValue-clause-done g c =
    rw c.in-ReturnValue.is (settled _ _ _ _ _ _ _ _
    (executed_on_words c.execution_keeps.ensures _ _ (known c.args.classes.now.world c.args.linked.now c.args.site) c.args.texts.now.names _ _ _ _ _ _ _ (c.execute_return.ensures c.args.next)))

pub returns-in-ReturnValue-clause-unmoved : goal.returns-in-ReturnValue-clause-unmoved
returns-in-ReturnValue-clause-unmoved g c = stays_unmoved c.execute_return.result _

pub returns-in-Return-clause-done : goal.returns-in-Return-clause-done
returns-in-Return-clause-done g c =
    rw c.in-Return.is (settled _ _ _ _ _ _ _ _
    (executed_on_words c.execution_keeps.ensures _ _ (known c.args.classes.now.world c.args.linked.now c.args.site) c.args.texts.now.names _ _ _ _ _ _ _ (nothing_done _ _ _)))
