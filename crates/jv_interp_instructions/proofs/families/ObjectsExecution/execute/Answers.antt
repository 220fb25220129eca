use Rattle.std.proofs.Common.{sym}
use Rattle.std.proofs.lemmas.Result.{IfOk-weaker}
use Rattle.jv_interp_members.specs.Known.{known}
use Rattle.jv_interp_instructions.proofs.AllInstructions.{settled}
use Rattle.jv_interp_instructions.proofs.TypesNamed.{instance_asked, cast_asked, reference_stored, object_made}
use Rattle.jv_interp_instructions.proofs.families.ObjectsExecution.execute.Goals as goal

pub returns-in-ReferenceArrayStore-clause-done : goal.returns-in-ReferenceArrayStore-clause-done
returns-in-ReferenceArrayStore-clause-done g c =
    rw (sym c.aastore-result.ensures.stays.same) (rw c.in-ReferenceArrayStore.is (settled _ _ _ _ _ _ _ _
    (reference_stored c.execution_keeps.ensures _ (known c.args.classes.now.world c.args.linked.now c.args.site) c.args.texts.now.names _ _ _ _ _ _ _ c.aastore-result.ensures.stores)))

pub returns-in-New-clause-done : goal.returns-in-New-clause-done
returns-in-New-clause-done g c =
    rw (sym c.create-result.ensures.stays.same)
    (rw c.in-New.is (IfOk-weaker c.create-result.result _ _ (λ effect m. object_made _ _ c.args.texts.now.names _ _ _ effect _ m)
    c.create-result.ensures.makes))

pub returns-in-CheckCast-clause-done : goal.returns-in-CheckCast-clause-done
returns-in-CheckCast-clause-done g c =
    rw (sym c.checkcast-result.ensures.stays.same) (rw c.in-CheckCast.is (settled _ _ _ _ _ _ _ _
    (cast_asked c.execution_keeps.ensures _ (known c.args.classes.now.world c.args.linked.now c.args.site) c.args.texts.now.names _ _ _ _ _ _ _ c.checkcast-result.ensures.asks)))

pub returns-in-InstanceOf-clause-done : goal.returns-in-InstanceOf-clause-done
returns-in-InstanceOf-clause-done g c =
    rw (sym c.instanceof-result.ensures.stays.same) (rw c.in-InstanceOf.is (settled _ _ _ _ _ _ _ _
    (instance_asked c.execution_keeps.ensures _ (known c.args.classes.now.world c.args.linked.now c.args.site) c.args.texts.now.names _ _ _ _ _ _ _ _ c.instanceof-result.ensures.asks)))

pub returns-in-ReferenceArrayStore-clause-stays : goal.returns-in-ReferenceArrayStore-clause-stays
returns-in-ReferenceArrayStore-clause-stays g c = rw (sym c.aastore-result.ensures.stays.same) c.aastore-result.ensures.stays

pub returns-in-ReferenceArrayStore-clause-unmoved : goal.returns-in-ReferenceArrayStore-clause-unmoved
returns-in-ReferenceArrayStore-clause-unmoved g c = rw (sym c.aastore-result.ensures.stays.same) c.aastore-result.ensures.unmoved

pub returns-in-New-clause-stays : goal.returns-in-New-clause-stays
returns-in-New-clause-stays g c = rw (sym c.create-result.ensures.stays.same) c.create-result.ensures.stays

pub returns-in-New-clause-unmoved : goal.returns-in-New-clause-unmoved
returns-in-New-clause-unmoved g c = rw (sym c.create-result.ensures.stays.same) c.create-result.ensures.unmoved

pub returns-in-New-clause-refused_at : goal.returns-in-New-clause-refused_at
returns-in-New-clause-refused_at g c = rw (sym c.create-result.ensures.stays.same) c.create-result.ensures.refused_at

pub returns-in-CheckCast-clause-stays : goal.returns-in-CheckCast-clause-stays
returns-in-CheckCast-clause-stays g c = rw (sym c.checkcast-result.ensures.stays.same) c.checkcast-result.ensures.stays

pub returns-in-CheckCast-clause-unmoved : goal.returns-in-CheckCast-clause-unmoved
returns-in-CheckCast-clause-unmoved g c = rw (sym c.checkcast-result.ensures.stays.same) c.checkcast-result.ensures.unmoved

pub returns-in-InstanceOf-clause-stays : goal.returns-in-InstanceOf-clause-stays
returns-in-InstanceOf-clause-stays g c = rw (sym c.instanceof-result.ensures.stays.same) c.instanceof-result.ensures.stays

pub returns-in-InstanceOf-clause-unmoved : goal.returns-in-InstanceOf-clause-unmoved
returns-in-InstanceOf-clause-unmoved g c = rw (sym c.instanceof-result.ensures.stays.same) c.instanceof-result.ensures.unmoved
