-- Rules of instructions that name fields and methods (JVMS 4.10.1.8, 4.10.1.9).
use Rattle.std.specs.Prelude.{ℕ, ◌+◌, Bool, true, false, not, ◌&&◌, ◌||◌, ◌==◌, List, [], ◌∷◌, ◌++◌, Option, Some, None, if◌then◌else◌}
use Rattle.std.specs.List.{list_all, list_any}
use Rattle.std.specs.Option.{option_map}
use Rattle.std.specs.Str.{bytes_eq}
use Rattle.jv_format.specs.Format.{◌>>=◌}
use Rattle.jv_text.specs.Name.{is_init}
use Rattle.jv_class_structure.specs.Version.{is_below_52}
use Rattle.jv_class.specs.Rules.{is_clinit}
use Rattle.jv_stackmap.specs.declared.verification.VerificationTypeOf.TheVariants as types
use Rattle.jv_stackmap.specs.Types.{FrameType, words}
use Rattle.jv_stackmap.specs.Frames.{Frame}
use Rattle.jv_code.specs.Insns.{Instruction}
use Rattle.jv_code.specs.declared.insn.Insn.TheVariants as insns
use Rattle.jv_code.specs.declared.kinds.FieldAccess.{FieldAccess}
use Rattle.jv_code.specs.declared.kinds.FieldAccess.TheVariants as access
use Rattle.jv_code.specs.declared.kinds.Invocation.{Invocation}
use Rattle.jv_code.specs.declared.kinds.Invocation.TheVariants as invocations
use Rattle.jv_meaning_world.specs.World.{Loaded, class_named}
use Rattle.jv_meaning_world.specs.Verdicts.{is_interface}
use Rattle.jv_meaning_world.specs.Flow.{flows}
use Rattle.jv_meaning_typing.specs.Operands.{class_operand, MethodConstant}
use Rattle.jv_meaning_typing.specs.Operands.MethodConstant.{Methodref, InterfaceMethodref}
use Rattle.jv_meaning_typing.specs.Environment.{Environment, current_class, instruction_at}
use Rattle.jv_meaning_typing.specs.FrameChanges.{with_stack, taken, taken_as_all, exchanged, replaced}
use Rattle.jv_meaning_typing.specs.Named.{FieldUse, field_named_by, MethodUse, method_named_by, current_type, is_guarded_field, is_guarded_method, guard, when}

-- ---- fields

abbrev pub field_guard : Environment → FieldUse → List FrameType
field_guard env field = guard env (is_guarded_field env.world env.site.by field.reference)

abbrev pub get_field : Environment → FieldUse → Frame → Option Frame
get_field env field frame =
    taken_as_all env.world (field.owner ∷ field_guard env field) frame.stack >>= λ below. Some (with_stack frame (field.type ∷ below))

-- in `<init>`, before it calls another one, a field by way of the current class can be stored to (own: it may be inherited)
abbrev pub sets_own_field : Environment → FieldUse → Bool
sets_own_field env field = is_init env.site.method.name && bytes_eq field.reference.class (current_class env).name

abbrev pub taken_for_store : Environment → FieldUse → List FrameType → Option (List FrameType)
taken_for_store env field (types.UninitializedThis ∷ below) = when (sets_own_field env field) below
taken_for_store env field stack = taken_as_all env.world (field.owner ∷ field_guard env field) stack

abbrev pub put_field : Environment → FieldUse → Frame → Option Frame
put_field env field frame =
    taken env.world (field.type ∷ []) frame.stack >>= taken_for_store env field >>= λ below. Some (with_stack frame below)

abbrev pub access_field : Environment → FieldAccess → FieldUse → Frame → Option Frame
access_field env access.GetStatic field frame = exchanged env.world [] (field.type ∷ []) frame
access_field env access.PutStatic field frame = exchanged env.world (field.type ∷ []) [] frame
access_field env access.GetField field frame = get_field env field frame
access_field env access.PutField field frame = put_field env field frame

abbrev pub field_rule : Environment → FieldAccess → ℕ → Frame → Option Frame
field_rule env access index frame = field_named_by env index >>= λ field. access_field env access field frame

-- ---- methods on objects that are initialized, and static ones

-- neither `<init>` nor `<clinit>`
abbrev pub has_plain_name : MethodUse → Bool
has_plain_name method = not (is_init method.reference.name) && not (is_clinit method.reference.name)

-- the arguments are taken, and below them an object that flows to each of these types
abbrev pub called_on : Environment → MethodUse → List FrameType → Frame → Option Frame
called_on env method receiver frame =
    taken env.world method.arguments frame.stack >>= taken_as_all env.world receiver >>= λ below.
    Some (with_stack frame (method.result ++ below))

abbrev pub is_of_class : MethodConstant → Bool
is_of_class Methodref = true
is_of_class InterfaceMethodref = false

abbrev pub method_guard : Environment → MethodUse → List FrameType
method_guard env method = guard env (is_guarded_method env.world env.site.by method.reference)

abbrev pub invoke_virtual : Environment → MethodUse → Frame → Option Frame
invoke_virtual env method frame =
    if is_of_class method.constant && has_plain_name method then called_on env method (method.owner ∷ method_guard env method) frame
    else None

abbrev pub invoke_static : Environment → MethodUse → Frame → Option Frame
invoke_static env method frame = if has_plain_name method then exchanged env.world method.arguments method.result frame else None

-- the number behind the index is that of the arguments' words and the receiver's
abbrev pub counts_arguments : MethodUse → ℕ → Bool
counts_arguments method count = count == words method.arguments + 1

abbrev pub invoke_interface : Environment → ℕ → MethodUse → Frame → Option Frame
invoke_interface env count method frame =
    if not (is_of_class method.constant) && has_plain_name method && counts_arguments method count
    then called_on env method (method.owner ∷ []) frame else None

-- ---- invokespecial of methods other than `<init>`: the current class is the named one or below it; an interface is the
-- current class itself or among its direct superinterfaces (own)

abbrev pub is_direct_interface : Environment → List ℕ → Bool
is_direct_interface env name = list_any (λ i. bytes_eq i name) (current_class env).interfaces

abbrev pub is_interface_named : Environment → List ℕ → Option Loaded → Bool
is_interface_named env name None = false
is_interface_named env name (Some l) = is_interface l

abbrev pub is_near : Environment → List ℕ → Bool
is_near env name =
    not (is_interface_named env name (class_named env.world name))
    || (bytes_eq name (current_class env).name || is_direct_interface env name)

abbrev pub invoke_super : Environment → MethodUse → Frame → Option Frame
invoke_super env method frame =
    if has_plain_name method && flows env.world (current_type env) method.owner && is_near env method.reference.class
    then called_on env method (current_type env ∷ []) frame else None

-- ---- invokespecial of `<init>`: the class of the object that it is called on

-- the class that an instruction names, where it is `new`
abbrev pub class_of_new : Environment → Option Instruction → Option (List ℕ)
class_of_new env (Some (insns.New index)) = class_operand (current_class env) index
class_of_new env _ = None

-- a name that may be missing is this one
abbrev pub is_that_name : List ℕ → Option (List ℕ) → Bool
is_that_name name None = false
is_that_name name (Some other) = bytes_eq name other

-- what `new` at an offset made is of the class that is named there; a guarded `<init>` is for objects of the current class
abbrev pub constructs_new : Environment → MethodUse → ℕ → Bool
constructs_new env method offset =
    is_that_name method.reference.class (class_of_new env (instruction_at env offset))
    && list_all (flows env.world method.owner) (method_guard env method)

-- the constructor of the current class or of its direct superclass is called on the receiver
abbrev pub constructs_this : Environment → MethodUse → Bool
constructs_this env method =
    bytes_eq method.reference.class (current_class env).name || is_that_name method.reference.class (current_class env).super_class

-- the type that the object gets, if the method can be called on it
abbrev pub constructed_type : Environment → MethodUse → FrameType → Option FrameType
constructed_type env method (types.Uninitialized offset) = when (constructs_new env method offset) method.owner
constructed_type env method types.UninitializedThis = when (constructs_this env method) (current_type env)
constructed_type env method _ = None

-- the flag that `this` may not be initialized goes where it is what is constructed
abbrev pub flag_behind : FrameType → Bool → Bool
flag_behind types.UninitializedThis flag = false
flag_behind _ flag = flag

-- all copies of the object get its type
abbrev pub constructed : Frame → FrameType → FrameType → List FrameType → Frame
constructed frame object type below = record {
  locals = replaced object type frame.locals;
  stack = replaced object type below;
  flag_this_uninit = flag_behind object frame.flag_this_uninit;
}

abbrev pub construct_top : Environment → MethodUse → Frame → List FrameType → Option Frame
construct_top env method frame [] = None
construct_top env method frame (object ∷ below) =
    option_map (λ type. constructed frame object type below) (constructed_type env method object)

abbrev pub invoke_init : Environment → MethodUse → Frame → Option Frame
invoke_init env method frame = taken env.world method.arguments frame.stack >>= construct_top env method frame

abbrev pub invoke_special : Environment → MethodUse → Frame → Option Frame
invoke_special env method frame =
    if is_init method.reference.name then invoke_init env method frame else invoke_super env method frame

-- ---- all of them

abbrev pub invoke : Environment → Invocation → MethodUse → Frame → Option Frame
invoke env invocations.Virtual method frame = invoke_virtual env method frame
invoke env invocations.Special method frame = invoke_special env method frame
invoke env invocations.Static method frame = invoke_static env method frame

-- in a class file below version 52.0, invokespecial and invokestatic name a method as that of a class only (4.9.1);
-- invokevirtual does so at each version
abbrev pub goes_with_version : Environment → MethodUse → Bool
goes_with_version env method = if is_below_52 (current_class env).major_version then is_of_class method.constant else true

abbrev pub invoke_rule : Environment → Invocation → ℕ → Frame → Option Frame
invoke_rule env how index frame =
    method_named_by env index >>= λ method. when (goes_with_version env method) method >>= λ method. invoke env how method frame

abbrev pub invoke_interface_rule : Environment → ℕ → ℕ → Frame → Option Frame
invoke_interface_rule env index count frame = method_named_by env index >>= λ method. invoke_interface env count method frame
