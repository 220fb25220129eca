use Rattle.jv_interp_members.specs.Known.{known}
use Rattle.jv_interp_instructions.proofs.AllInstructions.{can_at, settled}
use Rattle.jv_interp_instructions.proofs.families.ArraysExecution.execute.Goals as goal

pub execute_array_load-requires : goal.execute_array_load-requires
execute_array_load-requires g c = ((known c.args.classes.now.world c.args.linked.now c.args.site), c.args.texts.now.names, (can_at _ _ _ _ _ _ _ _ _ _ c.in-ArrayLoad.is c.requires.can).can)

pub execute_reference_array_load-requires : goal.execute_reference_array_load-requires
execute_reference_array_load-requires g c = (
  (known c.args.classes.now.world c.args.linked.now c.args.site),
  c.args.texts.now.names,
  (can_at _ _ _ _ _ _ _ _ _ _ c.in-ReferenceArrayLoad.is c.requires.can).can,
)

pub execute_array_store-requires : goal.execute_array_store-requires
execute_array_store-requires g c = ((known c.args.classes.now.world c.args.linked.now c.args.site), c.args.texts.now.names, (can_at _ _ _ _ _ _ _ _ _ _ c.in-ArrayStore.is c.requires.can).can)

pub execute_array_length-requires : goal.execute_array_length-requires
execute_array_length-requires g c = ((known c.args.classes.now.world c.args.linked.now c.args.site), c.args.texts.now.names, (can_at _ _ _ _ _ _ _ _ _ _ c.in-ArrayLength.is c.requires.can).can)

pub returns-in-ArrayLoad-clause-done : goal.returns-in-ArrayLoad-clause-done
returns-in-ArrayLoad-clause-done g c =
    rw c.in-ArrayLoad.is (settled _ _ _ _ _ _ _ _ (c.execute_array_load.ensures.done (known c.args.classes.now.world c.args.linked.now c.args.site) c.args.texts.now.names))

pub returns-in-ReferenceArrayLoad-clause-done : goal.returns-in-ReferenceArrayLoad-clause-done
returns-in-ReferenceArrayLoad-clause-done g c =
    rw c.in-ReferenceArrayLoad.is (settled _ _ _ _ _ _ _ _ (c.execute_reference_array_load.ensures.done (known c.args.classes.now.world c.args.linked.now c.args.site) c.args.texts.now.names))

pub returns-in-ArrayStore-clause-done : goal.returns-in-ArrayStore-clause-done
returns-in-ArrayStore-clause-done g c =
    rw c.in-ArrayStore.is (settled _ _ _ _ _ _ _ _ (c.execute_array_store.ensures.done (known c.args.classes.now.world c.args.linked.now c.args.site) c.args.texts.now.names))

pub returns-in-ArrayLength-clause-done : goal.returns-in-ArrayLength-clause-done
returns-in-ArrayLength-clause-done g c =
    rw c.in-ArrayLength.is (settled _ _ _ _ _ _ _ _ (c.execute_array_length.ensures.done (known c.args.classes.now.world c.args.linked.now c.args.site) c.args.texts.now.names))
