use Rattle.std.proofs.Common.{refl}
use Rattle.std.proofs.lemmas.Result.{IfOk-weaker}
use Rattle.jv_interp_members.specs.Known.{known}
use Rattle.jv_interp_instructions.proofs.AllInstructions.{can_at, settled, keys_kept, works_else}
use Rattle.jv_interp_instructions.proofs.Grown.{executed_on_words, guests}
use Rattle.jv_interp_instructions.proofs.TypesNamed.{instance_asked, cast_asked, thrown, reference_stored, object_made, array_made, arrays_made}
use Rattle.jv_interp_held.proofs.Unmoved.{stays_unmoved}
use Rattle.jv_interp_instructions.proofs.executing.execute.Goals as goal

pub execute_pool_constant-requires-clause-can : goal.execute_pool_constant-requires-clause-can
execute_pool_constant-requires-clause-can g c = (
  c.in-PoolConstant._form,
  (known c.args.classes.now.world c.args.linked.now c.args.site),
  record { world_is = refl; site_is = refl },
  c.requires.texts,
  (can_at _ _ _ _ _ _ _ _ _ _ c.in-PoolConstant.is c.requires.can).can,
)

pub execute_pool_long_constant-requires : goal.execute_pool_long_constant-requires
execute_pool_long_constant-requires g c = (
  (known c.args.classes.now.world c.args.linked.now c.args.site),
  record { world_is = refl; site_is = refl },
  c.args.texts.now.names,
  (can_at _ _ _ _ _ _ _ _ _ _ c.in-PoolLongConstant.is c.requires.can).can,
)

pub execute_array_load-requires : goal.execute_array_load-requires
execute_array_load-requires g c = ((known c.args.classes.now.world c.args.linked.now c.args.site), c.args.texts.now.names, (can_at _ _ _ _ _ _ _ _ _ _ c.in-ArrayLoad.is c.requires.can).can)

pub execute_reference_array_load-requires : goal.execute_reference_array_load-requires
execute_reference_array_load-requires g c = (
  (known c.args.classes.now.world c.args.linked.now c.args.site),
  c.args.texts.now.names,
  (can_at _ _ _ _ _ _ _ _ _ _ c.in-ReferenceArrayLoad.is c.requires.can).can,
)

pub execute_array_store-requires : goal.execute_array_store-requires
execute_array_store-requires g c = ((known c.args.classes.now.world c.args.linked.now c.args.site), c.args.texts.now.names, (can_at _ _ _ _ _ _ _ _ _ _ c.in-ArrayStore.is c.requires.can).can)

pub execute_new_array-requires-clause-can : goal.execute_new_array-requires-clause-can
execute_new_array-requires-clause-can g c = ((known c.args.classes.now.world c.args.linked.now c.args.site), c.args.texts.now.names, (can_at _ _ _ _ _ _ _ _ _ _ c.in-NewArray.is c.requires.can).can)

pub execute_array_length-requires : goal.execute_array_length-requires
execute_array_length-requires g c = ((known c.args.classes.now.world c.args.linked.now c.args.site), c.args.texts.now.names, (can_at _ _ _ _ _ _ _ _ _ _ c.in-ArrayLength.is c.requires.can).can)

pub athrow-requires : goal.athrow-requires
athrow-requires g c =
    let h = (can_at _ _ _ _ _ _ _ _ _ _ c.in-Throw.is c.requires.can).can in
    record {
      next = c.args.next;
      held = c.args.held.now;
      blocks = g.S.Store.content c.args.store.now;
      texts = c.args.texts.now.names;
      c = h.c;
      addresses = h.addresses;
      done = h.done;
      below = h.below;
      throws = record { executes = h.executes.executes; guests = guests c.execution_keeps.ensures _ _ _ _ _ h.c h.addresses h.done h.below h.executes };
    }

pub execute_in_words-requires-clause-keys : goal.execute_in_words-requires-clause-keys
execute_in_words-requires-clause-keys g c = keys_kept _ c.requires.rules

pub returns-in-PoolConstant-clause-done : goal.returns-in-PoolConstant-clause-done
returns-in-PoolConstant-clause-done g c =
    rw c.in-PoolConstant.is (IfOk-weaker c.execute_pool_constant.result _ _
    (λ effect m. settled _ _ _ _ _ _ _ effect (m c.in-PoolConstant._form (known c.args.classes.now.world c.args.linked.now c.args.site) (record { world_is = refl; site_is = refl }) c.requires.texts))
    c.execute_pool_constant.ensures.done)

pub returns-in-PoolLongConstant-clause-done : goal.returns-in-PoolLongConstant-clause-done
returns-in-PoolLongConstant-clause-done g c =
    rw c.in-PoolLongConstant.is (settled _ _ _ _ _ _ _ _
    (c.execute_pool_long_constant.ensures.done (known c.args.classes.now.world c.args.linked.now c.args.site) c.args.texts.now.names (record { world_is = refl; site_is = refl })))

pub returns-in-ArrayLoad-clause-done : goal.returns-in-ArrayLoad-clause-done
returns-in-ArrayLoad-clause-done g c =
    rw c.in-ArrayLoad.is (settled _ _ _ _ _ _ _ _ (c.execute_array_load.ensures.done (known c.args.classes.now.world c.args.linked.now c.args.site) c.args.texts.now.names))

pub returns-in-ReferenceArrayLoad-clause-done : goal.returns-in-ReferenceArrayLoad-clause-done
returns-in-ReferenceArrayLoad-clause-done g c =
    rw c.in-ReferenceArrayLoad.is (settled _ _ _ _ _ _ _ _ (c.execute_reference_array_load.ensures.done (known c.args.classes.now.world c.args.linked.now c.args.site) c.args.texts.now.names))

pub returns-in-ArrayStore-clause-done : goal.returns-in-ArrayStore-clause-done
returns-in-ArrayStore-clause-done g c =
    rw c.in-ArrayStore.is (settled _ _ _ _ _ _ _ _ (c.execute_array_store.ensures.done (known c.args.classes.now.world c.args.linked.now c.args.site) c.args.texts.now.names))

pub returns-in-ArrayLength-clause-done : goal.returns-in-ArrayLength-clause-done
returns-in-ArrayLength-clause-done g c =
    rw c.in-ArrayLength.is (settled _ _ _ _ _ _ _ _ (c.execute_array_length.ensures.done (known c.args.classes.now.world c.args.linked.now c.args.site) c.args.texts.now.names))

pub returns-in-ReferenceArrayStore-clause-done : goal.returns-in-ReferenceArrayStore-clause-done
returns-in-ReferenceArrayStore-clause-done g c =
    rw c.in-ReferenceArrayStore.is (settled _ _ _ _ _ _ _ _
    (reference_stored c.execution_keeps.ensures _ (known c.args.classes.now.world c.args.linked.now c.args.site) c.args.texts.now.names _ _ _ _ _ _ _ c.aastore.ensures.stores))

pub returns-in-Field-clause-done : goal.returns-in-Field-clause-done
returns-in-Field-clause-done g c =
    rw c.in-Field.is (c.execute_field.ensures.done c.args.texts.now.names)

pub returns-in-Invoke-clause-done : goal.returns-in-Invoke-clause-done
returns-in-Invoke-clause-done g c =
    rw c.in-Invoke.is (IfOk-weaker c.execute_invocation.result _ _ (λ effect done. done c.args.texts.now.names) c.execute_invocation.ensures.done)

pub returns-in-InvokeInterface-clause-done : goal.returns-in-InvokeInterface-clause-done
returns-in-InvokeInterface-clause-done g c =
    rw c.in-InvokeInterface.is (settled _ _ _ _ _ _ _ _ (c.execute_interface_invocation.ensures.done c.args.next c.in-InvokeInterface._count c.args.texts.now.names))

pub returns-in-New-clause-done : goal.returns-in-New-clause-done
returns-in-New-clause-done g c =
    rw c.in-New.is (IfOk-weaker c.create.result _ _ (λ effect m. object_made _ _ c.args.texts.now.names _ _ _ effect _ m) c.create.ensures.makes)

pub returns-in-NewArray-clause-done : goal.returns-in-NewArray-clause-done
returns-in-NewArray-clause-done g c =
    rw c.in-NewArray.is (IfOk-weaker c.execute_new_array.result _ _
    (λ effect m. settled _ _ _ _ _ _ _ effect (m (known c.args.classes.now.world c.args.linked.now c.args.site) c.args.texts.now.names)) c.execute_new_array.ensures.done)

pub returns-in-NewReferenceArray-clause-done : goal.returns-in-NewReferenceArray-clause-done
returns-in-NewReferenceArray-clause-done g c =
    rw c.in-NewReferenceArray.is (IfOk-weaker c.anewarray.result _ _
    (λ effect m. settled c.args.states.now _ _ _ _ _ _ effect (array_made _ _ c.args.texts.now.names c.args.states.now _ _ effect _ m)) c.anewarray.ensures.makes)

pub returns-in-NewMultiArray-clause-done : goal.returns-in-NewMultiArray-clause-done
returns-in-NewMultiArray-clause-done g c =
    rw c.in-NewMultiArray.is (IfOk-weaker c.multianewarray.result _ _
    (λ effect m. settled c.args.states.now _ _ _ _ _ _ effect (arrays_made _ _ c.args.texts.now.names c.args.states.now _ _ effect _ _ m)) c.multianewarray.ensures.makes)

pub returns-in-Throw-clause-done : goal.returns-in-Throw-clause-done
returns-in-Throw-clause-done g c =
    rw c.in-Throw.is (settled _ _ _ _ _ _ _ _ (thrown c.execution_keeps.ensures _ (known c.args.classes.now.world c.args.linked.now c.args.site) c.args.texts.now.names _ _ _ _ _ c.athrow.ensures))

pub returns-in-CheckCast-clause-done : goal.returns-in-CheckCast-clause-done
returns-in-CheckCast-clause-done g c =
    rw c.in-CheckCast.is (settled _ _ _ _ _ _ _ _
    (cast_asked c.execution_keeps.ensures _ (known c.args.classes.now.world c.args.linked.now c.args.site) c.args.texts.now.names _ _ _ _ _ _ _ c.checkcast.ensures.asks))

pub returns-in-InstanceOf-clause-done : goal.returns-in-InstanceOf-clause-done
returns-in-InstanceOf-clause-done g c =
    rw c.in-InstanceOf.is (settled _ _ _ _ _ _ _ _
    (instance_asked c.execution_keeps.ensures _ (known c.args.classes.now.world c.args.linked.now c.args.site) c.args.texts.now.names _ _ _ _ _ _ _ _ c.instanceof.ensures.asks))

pub returns-in_default-clause-done : goal.returns-in_default-clause-done
returns-in_default-clause-done g c =
    settled _ _ _ _ _ _ _ _
    (executed_on_words c.execution_keeps.ensures _ _ (known c.args.classes.now.world c.args.linked.now c.args.site) c.args.texts.now.names _ _ _ _ _ _ _ c.execute_in_words.ensures.done)

pub execute_in_words-requires-clause-works : goal.execute_in_words-requires-clause-works
execute_in_words-requires-clause-works g c =
    works_else c.args.insn c.in_default.not-PoolConstant
    c.in_default.not-PoolLongConstant
    c.in_default.not-ArrayLoad
    c.in_default.not-ReferenceArrayLoad
    c.in_default.not-ArrayStore
    c.in_default.not-ReferenceArrayStore
    c.in_default.not-Field
    c.in_default.not-Invoke
    c.in_default.not-InvokeInterface
    c.in_default.not-New
    c.in_default.not-NewArray
    c.in_default.not-NewReferenceArray
    c.in_default.not-NewMultiArray
    c.in_default.not-ArrayLength
    c.in_default.not-Throw
    c.in_default.not-CheckCast
    c.in_default.not-InstanceOf

pub returns-in-Throw-clause-unmoved : goal.returns-in-Throw-clause-unmoved
returns-in-Throw-clause-unmoved g c = stays_unmoved c.athrow.result _

pub returns-in-InvokeInterface-clause-unmoved : goal.returns-in-InvokeInterface-clause-unmoved
returns-in-InvokeInterface-clause-unmoved g c = stays_unmoved c.execute_interface_invocation.result _
