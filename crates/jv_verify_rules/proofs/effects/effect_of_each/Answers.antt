use Rattle.std.proofs.Common.{ℕ, List, ◌∷◌, [], codes, refl, sym, subst}
use Rattle.std.specs.Prelude.{IfOk}
use Rattle.std.specs.Borrow.{Bor}
use Rattle.jv_stackmap.specs.declared.verification.VerificationTypeOf.TheVariants as types
use Rattle.jv_code.specs.declared.insn.Insn.{Insn}
use Rattle.jv_code.specs.Insns.{instruction_of}
use Rattle.jv_code.specs.declared.kinds.ValueKind.{ValueKind}
use Rattle.jv_meaning_typing.specs.FrameChanges.{exchanged}
use Rattle.jv_meaning_typing.specs.MemberRules.{field_rule, invoke_rule, invoke_interface_rule}
use Rattle.jv_meaning_typing.specs.Named.{array_with, class_components, object_class_type}
use Rattle.jv_meaning_typing.specs.NumberRules.{computation, number_type, new_array_type, test}
use Rattle.jv_meaning_typing.specs.Rule.{by_exchange, effect, test_references}
use Rattle.jv_meaning_typing.specs.ValueRules.{store, array_load, array_store, reference_array_load, return_value}
use Rattle.jv_verify_types.specs.Typed.{TypeWorld, typed}
use Rattle.jv_verify_types.specs.Numbered.{frame_of}
use Rattle.jv_verify_types.specs.Outcomes.{IsOutcome}
use Rattle.jv_verify_rules.proofs.Arms.{at_insn, in_class, world_same, result_same}
use Rattle.jv_verify_rules.proofs.effects.effect_of_each.Goals as goal

pub returns-in-Compute : goal.returns-in-Compute
returns-in-Compute c = λ env of.
    let names = c.args.constants.now.types.names in
    at_insn names env c.args.offset (frame_of names c.args.frame.now) c.compute.new.frame c.compute.result c.in-Compute.is
    (in_class c.args.context.now c.args.constants.now env of c.names-types.result.now c.names-types.ensures c.compute.new.frame c.compute.result
    (λ w ns. exchanged w (computation c.in-Compute.what).takes (computation c.in-Compute.what).gives (frame_of ns c.args.frame.now))
    c.compute.ensures)

pub returns-in-PoolConstant : goal.returns-in-PoolConstant
returns-in-PoolConstant c = λ env of.
    let names = c.args.constants.now.types.names in
    at_insn names env c.args.offset (frame_of names c.args.frame.now) c.args.frame.now c.push_constant.result c.in-PoolConstant.is
    (c.push_constant.ensures env c.args.frame.now of.over.pool)

pub returns-in-PoolLongConstant : goal.returns-in-PoolLongConstant
returns-in-PoolLongConstant c = λ env of.
    let names = c.args.constants.now.types.names in
    at_insn names env c.args.offset (frame_of names c.args.frame.now) c.args.frame.now c.push_long_constant.result c.in-PoolLongConstant.is
    (c.push_long_constant.ensures env c.args.frame.now of.over.pool)

pub returns-in-Load : goal.returns-in-Load
returns-in-Load c = λ env of.
    let names = c.args.constants.now.types.names in
    at_insn names env c.args.offset (frame_of names c.args.frame.now) c.args.frame.now c.load.result c.in-Load.is
    (c.load.ensures names)

pub returns-in-Store : goal.returns-in-Store
returns-in-Store c = λ env of.
    let names = c.args.constants.now.types.names in
    at_insn names env c.args.offset (frame_of names c.args.frame.now) c.store.new.frame c.store.result c.in-Store.is
    (subst (λ (k : ValueKind). IsOutcome names (store k c.in-Store.index (frame_of names c.args.frame.now)) c.store.new.frame c.store.result) c.value_kind.ensures (c.store.ensures names))

pub returns-in-StoreLong : goal.returns-in-StoreLong
returns-in-StoreLong c = λ env of.
    let names = c.args.constants.now.types.names in
    at_insn names env c.args.offset (frame_of names c.args.frame.now) c.store-in-StoreLong.new.frame c.store-in-StoreLong.result c.in-StoreLong.is
    (c.store-in-StoreLong.ensures names)

pub returns-in-ArrayLoad : goal.returns-in-ArrayLoad
returns-in-ArrayLoad c = λ env of.
    let names = c.args.constants.now.types.names in
    at_insn names env c.args.offset (frame_of names c.args.frame.now) c.array_load.new.frame c.array_load.result c.in-ArrayLoad.is
    (in_class c.args.context.now c.args.constants.now env of c.names-types.result.now c.names-types.ensures c.array_load.new.frame c.array_load.result
    (λ w ns. array_load w c.in-ArrayLoad.element (frame_of ns c.args.frame.now)) c.array_load.ensures)

pub returns-in-ReferenceArrayLoad : goal.returns-in-ReferenceArrayLoad
returns-in-ReferenceArrayLoad c = λ env of.
    let names = c.args.constants.now.types.names in
    at_insn names env c.args.offset (frame_of names c.args.frame.now) c.reference_array_load.new.frame c.reference_array_load.result c.in-ReferenceArrayLoad.is
    (in_class c.args.context.now c.args.constants.now env of c.names-types.result.now c.names-types.ensures c.reference_array_load.new.frame
    c.reference_array_load.result (λ w ns. reference_array_load w (frame_of ns c.args.frame.now)) c.reference_array_load.ensures)

pub returns-in-ArrayStore : goal.returns-in-ArrayStore
returns-in-ArrayStore c = λ env of.
    let names = c.args.constants.now.types.names in
    at_insn names env c.args.offset (frame_of names c.args.frame.now) c.array_store.new.frame c.array_store.result c.in-ArrayStore.is
    (in_class c.args.context.now c.args.constants.now env of c.names-types.result.now c.names-types.ensures c.array_store.new.frame
    c.array_store.result (λ w ns. array_store w c.in-ArrayStore.element (frame_of ns c.args.frame.now)) c.array_store.ensures)

pub returns-in-ReferenceArrayStore : goal.returns-in-ReferenceArrayStore
returns-in-ReferenceArrayStore c = λ env of.
    let names = c.args.constants.now.types.names in
    at_insn names env c.args.offset (frame_of names c.args.frame.now) c.reference_array_store.new.frame c.reference_array_store.result c.in-ReferenceArrayStore.is
    (in_class c.args.context.now c.args.constants.now env of c.names-types.result.now c.names-types.ensures c.reference_array_store.new.frame
    c.reference_array_store.result
    (λ w ns. exchanged w (array_with (class_components (codes "java/lang/Object")) ∷ types.Int ∷ object_class_type ∷ []) []
    (frame_of ns c.args.frame.now)) c.reference_array_store.ensures)

pub returns-in-Stack : goal.returns-in-Stack
returns-in-Stack c = λ env of.
    let names = c.args.constants.now.types.names in
    subst (λ (i : Insn (Bor (List ℕ))). IfOk c.rearrange.result (IsOutcome names (effect env c.args.offset (instruction_of i) (frame_of names c.args.frame.now)) c.rearrange.new.frame))
    (sym c.in-Stack.is) (c.rearrange.ensures names)

pub returns-in-Increment : goal.returns-in-Increment
returns-in-Increment c = λ env of.
    let names = c.args.constants.now.types.names in
    at_insn names env c.args.offset (frame_of names c.args.frame.now) c.args.frame.now c.increment.result c.in-Increment.is
    (c.increment.ensures names)

pub returns-in-Branch : goal.returns-in-Branch
returns-in-Branch c = λ env of.
    let names = c.args.constants.now.types.names in
    at_insn names env c.args.offset (frame_of names c.args.frame.now) c.branch-types.new.frame c.branch-types.result c.in-Branch.is
    (subst (λ (t : TypeWorld). IsOutcome t.names
    (by_exchange env (test c.in-Branch.condition) (test_references c.in-Branch.condition (frame_of t.names c.args.frame.now))
    (frame_of t.names c.args.frame.now)) c.branch-types.new.frame c.branch-types.result) c.names-types.ensures
    (c.branch-types.ensures env (world_same c.args.context.now c.args.constants.now env of c.names-types.result.now c.names-types.ensures)))

pub returns-in-ReturnValue : goal.returns-in-ReturnValue
returns-in-ReturnValue c = λ env of.
    let names = c.args.constants.now.types.names in
    at_insn names env c.args.offset (frame_of names c.args.frame.now) c.leave_with_value.new.frame c.leave_with_value.result c.in-ReturnValue.is
    (subst (λ (t : TypeWorld). IsOutcome t.names (return_value env c.in-ReturnValue.kind env.descriptor.result (frame_of t.names c.args.frame.now))
    c.leave_with_value.new.frame c.leave_with_value.result) c.names-types.ensures
    (c.leave_with_value.ensures env env.descriptor.result (world_same c.args.context.now c.args.constants.now env of c.names-types.result.now
    c.names-types.ensures) (result_same c.args.context.now c.args.constants.now env of c.names-types.result.now c.names-types.ensures
    c.result.result c.result.ensures)))

pub returns-in-Return : goal.returns-in-Return
returns-in-Return c = λ env of.
    let names = c.args.constants.now.types.names in
    at_insn names env c.args.offset (frame_of names c.args.frame.now) c.args.frame.now c.leave.result c.in-Return.is
    (c.leave.ensures names env.descriptor.result (result_same c.args.context.now c.args.constants.now env of c.args.constants.now.types refl c.result-in-Return.result c.result-in-Return.ensures))

pub returns-in-Field : goal.returns-in-Field
returns-in-Field c = λ env of.
    let names = c.args.constants.now.types.names in
    at_insn names env c.args.offset (frame_of names c.args.frame.now) c.use_field.new.frame c.use_field.result c.in-Field.is
    (subst (λ (t : TypeWorld). IsOutcome t.names (field_rule env c.in-Field.access c.in-Field.index (frame_of t.names c.args.frame.now))
    c.use_field.new.frame c.use_field.result) of.types (c.use_field.ensures env of.method))

pub returns-in-Invoke : goal.returns-in-Invoke
returns-in-Invoke c = λ env of.
    let names = c.args.constants.now.types.names in
    at_insn names env c.args.offset (frame_of names c.args.frame.now) c.invoke.new.frame c.invoke.result c.in-Invoke.is
    (subst (λ (t : TypeWorld). IsOutcome t.names (invoke_rule env c.in-Invoke.how c.in-Invoke.index (frame_of t.names c.args.frame.now))
    c.invoke.new.frame c.invoke.result) of.types (c.invoke.ensures env of.method))

pub returns-in-InvokeInterface : goal.returns-in-InvokeInterface
returns-in-InvokeInterface c = λ env of.
    let names = c.args.constants.now.types.names in
    at_insn names env c.args.offset (frame_of names c.args.frame.now) c.invoke_of_interface.new.frame c.invoke_of_interface.result c.in-InvokeInterface.is
    (subst (λ (t : TypeWorld). IsOutcome t.names (invoke_interface_rule env c.in-InvokeInterface.index c.in-InvokeInterface.count
    (frame_of t.names c.args.frame.now)) c.invoke_of_interface.new.frame c.invoke_of_interface.result) of.types
    (c.invoke_of_interface.ensures env of.method))

pub returns-in-Throw : goal.returns-in-Throw
returns-in-Throw c = λ env of.
    let names = c.args.constants.now.types.names in
    at_insn names env c.args.offset (frame_of names c.args.frame.now) c.exchange.new.frame c.exchange.result c.in-Throw.is
    (subst (λ type. IsOutcome names (exchanged env.world (type ∷ []) [] (frame_of names c.args.frame.now)) c.exchange.new.frame c.exchange.result)
    c.throwable.ensures (in_class c.args.context.now c.args.constants.now env of c.names-types.result.now c.names-types.ensures
    c.exchange.new.frame c.exchange.result (λ w ns. exchanged w (typed ns c.throwable.result ∷ []) [] (frame_of ns c.args.frame.now))
    c.exchange.ensures))

pub returns-in-NewArray : goal.returns-in-NewArray
returns-in-NewArray c = λ env of.
    let names = c.args.constants.now.types.names in
    at_insn names env c.args.offset (frame_of names c.args.frame.now) c.new_array.new.frame c.new_array.result c.in-NewArray.is
    (in_class c.args.context.now c.args.constants.now env of c.names-types.result.now c.names-types.ensures c.new_array.new.frame c.new_array.result
    (λ w ns. exchanged w (types.Int ∷ []) (new_array_type c.in-NewArray.element ∷ []) (frame_of ns c.args.frame.now)) c.new_array.ensures)

pub returns-in-Division : goal.returns-in-Division
returns-in-Division c = λ env of.
    let names = c.args.constants.now.types.names in
    at_insn names env c.args.offset (frame_of names c.args.frame.now) c.combine.new.frame c.combine.result c.in-Division.is
    (in_class c.args.context.now c.args.constants.now env of c.names-types.result.now c.names-types.ensures c.combine.new.frame c.combine.result
    (λ w ns. exchanged w (number_type c.in-Division.kind ∷ number_type c.in-Division.kind ∷ []) (number_type c.in-Division.kind ∷ [])
    (frame_of ns c.args.frame.now)) c.combine.ensures)

pub returns-in-New : goal.returns-in-New
returns-in-New c = λ env of.
    let names = c.args.constants.now.types.names in
    at_insn names env c.args.offset (frame_of names c.args.frame.now) c.make_object.new.frame c.make_object.result c.in-New.is
    (c.make_object.ensures env of.over.pool)

pub returns-in-NewReferenceArray : goal.returns-in-NewReferenceArray
returns-in-NewReferenceArray c = λ env of.
    let names = c.args.constants.now.types.names in
    at_insn names env c.args.offset (frame_of names c.args.frame.now) c.make_array.new.frame c.make_array.result c.in-NewReferenceArray.is
    (c.make_array.ensures env of.over)

pub returns-in-NewMultiArray : goal.returns-in-NewMultiArray
returns-in-NewMultiArray c = λ env of.
    let names = c.args.constants.now.types.names in
    at_insn names env c.args.offset (frame_of names c.args.frame.now) c.make_multi_array.new.frame c.make_multi_array.result c.in-NewMultiArray.is
    (c.make_multi_array.ensures env of.over)

pub returns-in-ArrayLength : goal.returns-in-ArrayLength
returns-in-ArrayLength c = λ env of.
    let names = c.args.constants.now.types.names in
    at_insn names env c.args.offset (frame_of names c.args.frame.now) c.array_length.new.frame c.array_length.result c.in-ArrayLength.is
    (c.array_length.ensures names)

pub returns-in-CheckCast : goal.returns-in-CheckCast
returns-in-CheckCast c = λ env of.
    let names = c.args.constants.now.types.names in
    at_insn names env c.args.offset (frame_of names c.args.frame.now) c.check_cast.new.frame c.check_cast.result c.in-CheckCast.is
    (c.check_cast.ensures env of.over)

pub returns-in-InstanceOf : goal.returns-in-InstanceOf
returns-in-InstanceOf c = λ env of.
    let names = c.args.constants.now.types.names in
    at_insn names env c.args.offset (frame_of names c.args.frame.now) c.instance_of.new.frame c.instance_of.result c.in-InstanceOf.is
    (c.instance_of.ensures env of.over)
