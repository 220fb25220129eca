-- The rule of each instruction (JVMS 4.10.1.9): the frame behind it, if it may stand behind a frame; and the frame with which
-- a handler that covers it begins (4.10.1.6).
use Rattle.std.specs.Prelude.{ℕ, nat_le, List, [], length, Option, Some, None, slice_get}
use Rattle.std.specs.Option.{option_map}
use Rattle.jv_format.specs.Format.{◌>>=◌}
use Rattle.jv_text.specs.Name.{is_init}
use Rattle.jv_stackmap.specs.declared.verification.VerificationTypeOf.TheVariants as types
use Rattle.jv_stackmap.specs.Types.{FrameType, words}
use Rattle.jv_stackmap.specs.Frames.{Frame}
use Rattle.jv_code.specs.Insns.{Instruction}
use Rattle.jv_code.specs.declared.insn.Insn.TheVariants as insns
use Rattle.jv_code.specs.declared.kinds.Invocation.TheVariants as invocations
use Rattle.jv_code.specs.declared.kinds.ValueKind.TheVariants as kinds
use Rattle.jv_code.specs.declared.kinds.Test.{Test}
use Rattle.jv_code.specs.declared.kinds.Test.TheVariants as tests
use Rattle.jv_meaning_typing.specs.Environment.{Environment}
use Rattle.jv_meaning_typing.specs.FrameChanges.{with_stack, exchanged, replaced}
use Rattle.jv_meaning_typing.specs.Named.{method_named_by, when}
use Rattle.jv_meaning_typing.specs.NumberRules.{Exchange, fixed_exchange}
use Rattle.jv_meaning_typing.specs.ValueRules.{push_constant, push_long_constant, load, value_kind, store, increment, array_load, array_store, reference_array_load, array_length, new_reference_array, new_multi_array, move_words, take_reference, new_object, check_cast, instance_of, return_value, return_nothing}
use Rattle.jv_meaning_typing.specs.MemberRules.{field_rule, invoke_rule, invoke_interface_rule}

-- ---- the frame behind an instruction

-- branches that compare references, which may be of objects that are not initialized
abbrev pub test_references : Test → Frame → Option Frame
test_references (tests.IfReferences equality) frame = take_reference frame >>= take_reference
test_references (tests.IfNull equality) frame = take_reference frame
test_references _ frame = None

-- an instruction at an offset that is not in the table of fixed types
abbrev pub other_rule : Environment → ℕ → Instruction → Frame → Option Frame
other_rule env pc (insns.PoolConstant index form) frame = push_constant env index frame
other_rule env pc (insns.PoolLongConstant index) frame = push_long_constant env index frame
other_rule env pc (insns.Load kind index form) frame = load kind index frame
other_rule env pc (insns.Store kind index form) frame = store (value_kind kind) index frame
other_rule env pc (insns.StoreLong index form) frame = store kinds.Long index frame
other_rule env pc (insns.Increment index value form) frame = increment index frame
other_rule env pc (insns.ArrayLoad element) frame = array_load env.world element frame
other_rule env pc insns.ReferenceArrayLoad frame = reference_array_load env.world frame
other_rule env pc (insns.ArrayStore element) frame = array_store env.world element frame
other_rule env pc (insns.Stack form) frame = move_words form frame
other_rule env pc (insns.Branch test distance) frame = test_references test frame
other_rule env pc (insns.ReturnValue kind) frame = return_value env kind env.descriptor.result frame
other_rule env pc insns.Return frame = return_nothing env.descriptor.result frame
other_rule env pc (insns.Field access index) frame = field_rule env access index frame
other_rule env pc (insns.Invoke how index) frame = invoke_rule env how index frame
other_rule env pc (insns.InvokeInterface index count) frame = invoke_interface_rule env index count frame
other_rule env pc (insns.New index) frame = new_object env pc index frame
other_rule env pc (insns.NewReferenceArray index) frame = new_reference_array env index frame
other_rule env pc (insns.NewMultiArray index dimensions) frame = new_multi_array env index dimensions frame
other_rule env pc insns.ArrayLength frame = option_map (with_stack frame) (array_length frame.stack)
other_rule env pc (insns.CheckCast index) frame = check_cast env index frame
other_rule env pc (insns.InstanceOf index) frame = instance_of env index frame
other_rule env pc _ frame = None

abbrev pub by_exchange : Environment → Option Exchange → Option Frame → Frame → Option Frame
by_exchange env None other frame = other
by_exchange env (Some exchange) other frame = exchanged env.world exchange.takes exchange.gives frame

-- the frame behind, whatever its stack's size
abbrev pub effect : Environment → ℕ → Instruction → Frame → Option Frame
effect env pc insn frame = by_exchange env (fixed_exchange insn) (other_rule env pc insn frame) frame

-- the words of its stack are within max_stack (4.10.1.4)
abbrev pub within_stack : Environment → Frame → Option Frame
within_stack env frame = when (nat_le (words frame.stack) env.code.max_stack) frame

abbrev pub rule : Environment → ℕ → Instruction → Frame → Option Frame
rule env pc insn frame = effect env pc insn frame >>= within_stack env

-- ---- the frame of handlers

-- what `<init>` is called on: the item below as many items as it has arguments, whatever these are
abbrev pub constructed_object : Environment → Instruction → Frame → Option FrameType
constructed_object env (insns.Invoke invocations.Special index) frame =
    method_named_by env index >>= λ method. when (is_init method.reference.name) method >>= λ method.
    slice_get frame.stack (length method.arguments)
constructed_object env _ frame = None

-- if `<init>` throws, its object cannot be used any more, and `this` stays one that may not be initialized (own)
abbrev pub without_object : Option FrameType → List FrameType → List FrameType
without_object None locals = locals
without_object (Some object) locals = replaced object types.Top locals

-- the local variables and the flag before the instruction, and an empty stack, on which what was thrown is put
abbrev pub handler_frame : Environment → Instruction → Frame → Frame
handler_frame env insn frame = record {
  locals = without_object (constructed_object env insn frame) frame.locals;
  stack = [];
  flag_this_uninit = frame.flag_this_uninit;
}
