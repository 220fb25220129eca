-- Calls of methods (JVMS 6.5: invokevirtual, invokespecial, invokestatic, invokeinterface): resolution comes first, then the
-- initialization of a static method's class, then the operands, null among them, and then selection.
use Rattle.std.specs.Prelude.{ℕ, ◌-◌, ◌%◌, ℤ, pos, negsuc, Bool, true, false, not, ◌&&◌, ◌||◌, ◌==◌, List, [], ◌∷◌, ◌++◌, map, Option, Some, None, Ok, Err, codes, if◌then◌else◌, slice_get}
use Rattle.std.specs.Int.{w32, cast_unsigned}
use Rattle.std.specs.Str.{bytes_eq}
use Rattle.jv_text.specs.Descriptor.{MethodDescriptor}
use Rattle.jv_text.specs.Name.{is_init}
use Rattle.jv_text.specs.Types.{method_type_of}
use Rattle.jv_class_structure.specs.Version.{is_below_52}
use Rattle.jv_class.specs.Class.{Class}
use Rattle.jv_stackmap.specs.Types.{value_type}
use Rattle.jv_code.specs.declared.kinds.Invocation.{Invocation}
use Rattle.jv_code.specs.declared.kinds.Invocation.TheVariants as invocations
use Rattle.jv_meaning_world.specs.World.{Loaded, World, class_named}
use Rattle.jv_meaning_world.specs.Overriding.{Declared}
use Rattle.jv_meaning_world.specs.Verdicts.{is_interface}
use Rattle.jv_meaning_typing.specs.Uses.{Use}
use Rattle.jv_meaning_typing.specs.Uses.Use.{Invokestatic, Invokevirtual, Invokespecial, Invokeinterface}
use Rattle.jv_meaning_typing.specs.Operands.{MethodReference, method_operand}
use Rattle.jv_meaning_typing.specs.MethodResolution.{MethodTarget, resolve_method}
use Rattle.jv_meaning_typing.specs.Selection.{select}
use Rattle.jv_meaning_typing.specs.Environment.{current_class}
use Rattle.jv_meaning_typing.specs.MemberRules.{is_of_class, is_that_name}
use Rattle.jv_meaning_typing.specs.Named.{class_components}
use Rattle.jv_meaning_machine.specs.Faults.{OrFault, found, tested, ◌>>=◌}
use Rattle.jv_meaning_machine.specs.Faults.Fault.{OffsetFault, TagFault, ReferenceFault, ConstructionFault}
use Rattle.jv_meaning_machine.specs.Values.{Value}
use Rattle.jv_meaning_machine.specs.Values.Value.{Int, Null, Reference}
use Rattle.jv_meaning_machine.specs.Objects.{Object, Instance, is_constructed, is_instance_of}
use Rattle.jv_meaning_machine.specs.Objects.Object.{InstanceOf, ArrayWith}
use Rattle.jv_meaning_machine.specs.State.{Memory}
use Rattle.jv_meaning_machine.specs.Operands.{object_at, popped_reference, taken}
use Rattle.jv_meaning_machine.specs.Effects.{Context, Outcome, world_at, method_at, site_at, goes_on, goes_on_with, raises, unless_error, once_initialized, lacks_memory, null_pointer}
use Rattle.jv_meaning_machine.specs.Effects.Effect.{Enters, Constructs}
use Rattle.jv_meaning_machine.specs.Arithmetic.{one, two, none, as_int}
use Rattle.jv_meaning_machine.specs.Arrays.{array_in, holds_references, make_array}
use Rattle.jv_meaning_machine.specs.Fields.{instance_in}

-- ---- host/Io, whose methods are built in (own)

abbrev pub is_built_in : Declared → Bool
is_built_in d = d.by.by_system && bytes_eq d.by.class.name (codes "host/Io")

pub data HostMethod : Type 0 where
  Read : HostMethod
  Write : HostMethod
  ClassName : HostMethod
  ArrayLike : HostMethod

-- by the name alone: host/Io has these four, and its methods are found by name and descriptor
abbrev pub host_method : List ℕ → HostMethod
host_method name =
    if bytes_eq name (codes "write") then Write
    else if bytes_eq name (codes "className") then ClassName
    else if bytes_eq name (codes "arrayLike") then ArrayLike
    else Read

-- `read()` gives the next byte of the input that waits, or -1 where none waits
abbrev pub read : Context → List Value → List ℕ → Outcome
read c below [] = goes_on c (Int (negsuc 0) ∷ below)
read c below (byte ∷ more) = goes_on_with c (record c.memory { input = more }) (Int (pos byte) ∷ below)

-- `write(int)` appends the low eight bits
abbrev pub with_byte_written : ℤ → Memory → Memory
with_byte_written number memory =
    record memory { output = memory.output ++ (cast_unsigned w32 number % 256) ∷ []; output_left = memory.output_left - 1 }

abbrev pub write : Context → ℤ → List Value → Outcome
write c number below = if c.memory.output_left == 0 then lacks_memory c else goes_on_with c (with_byte_written number c.memory) below

-- `className(Object, int)` gives the byte at a place, from 0 on, of the internal name (4.2.1) of an object's class, or -1 where there is
-- none, and -1 for an array
abbrev pub name_of : Object → List ℕ
name_of (InstanceOf instance) = instance.class
name_of (ArrayWith components values) = []

abbrev pub byte_or_none : Option ℕ → ℤ
byte_or_none None = negsuc 0
byte_or_none (Some byte) = pos byte

abbrev pub byte_in : List ℕ → ℤ → ℤ
byte_in name (pos place) = byte_or_none (slice_get name place)
byte_in name (negsuc n) = negsuc 0

abbrev pub class_name : Context → ℤ → List Value → Value → Outcome
class_name c place below Null = raises c null_pointer
class_name c place below (Reference id) =
    object_at c.memory.objects id >>= λ object. goes_on c (Int (byte_in (name_of object) place) ∷ below)
class_name c place below _ = Err TagFault

-- `arrayLike(Object[], int)` makes an array of so many components, all null, of the type that those of another array have, as `anewarray`
-- does; nothing is resolved, so no access is asked
abbrev pub array_like : Context → ℤ → List Value → Value → Outcome
array_like c count below Null = raises c null_pointer
array_like c count below (Reference id) =
    object_at c.memory.objects id >>= array_in >>= λ array. tested ReferenceFault (holds_references array.0) array >>= λ array.
    make_array c array.0 count below
array_like c count below _ = Err TagFault

abbrev pub run_built_in : Context → HostMethod → List Value → List Value → Outcome
run_built_in c Read arguments below = none below arguments >>= λ below. read c below c.memory.input
run_built_in c Write arguments below = one arguments >>= as_int >>= λ number. write c number below
run_built_in c ClassName arguments below = two arguments >>= λ both. as_int both.1 >>= λ place. class_name c place below both.0
run_built_in c ArrayLike arguments below = two arguments >>= λ both. as_int both.1 >>= λ count. array_like c count below both.0

-- ---- methods that are entered

-- the receiver is an instance of the class that declares the method; every object counts as one of an interface (4.10.1.2)
abbrev pub can_receive : World → Declared → Object → Bool
can_receive world d object = is_interface d.by || is_instance_of world object (class_components d.by.class.name)

abbrev pub run_static : Context → List Value → List Value → MethodTarget → Bool → Outcome
run_static c arguments below t true = run_built_in c (host_method t.declared.method.name) arguments below
run_static c arguments below t false = Ok (c.memory, Enters t.declared None arguments below)

abbrev pub call_static : Context → MethodDescriptor → MethodTarget → Outcome
call_static c descriptor t =
    taken c.memory.objects (map value_type descriptor.parameters) c.frame.stack >>= λ arguments.
    unless_error c (select (world_at c) (site_at c) Invokestatic t None) (λ t.
    run_static c arguments.0 arguments.1 t (is_built_in t.declared))

-- the class of an object, by which its method is selected; None for an array's
abbrev pub class_of_object : World → Object → OrFault (Option Loaded)
class_of_object world (InstanceOf instance) = found ReferenceFault (class_named world instance.class) >>= λ l. Ok (Some l)
class_of_object world (ArrayWith components values) = Ok None

abbrev pub run_on : Context → ℕ → Object → List Value → List Value → MethodTarget → Outcome
run_on c id object arguments below t =
    tested ReferenceFault (can_receive (world_at c) t.declared object) t >>= λ t.
    Ok (c.memory, Enters t.declared (Some id) arguments below)

abbrev pub call_on : Context → Use → MethodTarget → List Value → Value → List Value → Outcome
call_on c how t arguments Null below = raises c null_pointer
call_on c how t arguments (Reference id) below =
    object_at c.memory.objects id >>= λ object. tested ConstructionFault (is_constructed object) object >>= λ object.
    class_of_object (world_at c) object >>= λ class.
    unless_error c (select (world_at c) (site_at c) how t class) (run_on c id object arguments below)
call_on c how t arguments _ below = Err TagFault

-- ---- `<init>` (2.9): first that of the object's class is entered, and then that of the class last entered or of its direct
-- superclass, until the object is constructed

abbrev pub is_superclass_of : World → List ℕ → Option Loaded → Bool
is_superclass_of world name None = false
is_superclass_of world name (Some l) = is_that_name name l.class.super_class

abbrev pub comes_next : World → Instance → Option (List ℕ) → List ℕ → Bool
comes_next world instance None name = bytes_eq name instance.class
comes_next world instance (Some entered) name =
    bytes_eq name entered || is_superclass_of world name (class_named world entered)

abbrev pub can_enter : World → Instance → List ℕ → Bool
can_enter world instance name = not instance.constructed && comes_next world instance instance.entered name

abbrev pub construct : Context → MethodTarget → List Value → Value → List Value → Outcome
construct c t arguments Null below = raises c null_pointer
construct c t arguments (Reference id) below =
    object_at c.memory.objects id >>= instance_in >>= λ instance.
    tested ConstructionFault (can_enter (world_at c) instance t.declared.by.class.name) instance >>= λ instance.
    unless_error c (select (world_at c) (site_at c) Invokespecial t None) (λ t.
    Ok (c.memory, Constructs t.declared id instance arguments below))
construct c t arguments _ below = Err TagFault

-- ---- all of them

-- invokespecial alone calls an `<init>`
abbrev pub call_special : Context → MethodTarget → List Value → Value → List Value → Bool → Outcome
call_special c t arguments receiver below true = construct c t arguments receiver below
call_special c t arguments receiver below false = call_on c Invokespecial t arguments receiver below

abbrev pub call_with : Context → Use → MethodTarget → List Value → Value → List Value → Outcome
call_with c Invokespecial t arguments receiver below =
    call_special c t arguments receiver below (is_init t.declared.method.name)
call_with c how t arguments receiver below = call_on c how t arguments receiver below

abbrev pub call_instance : Context → Use → MethodDescriptor → MethodTarget → Outcome
call_instance c how descriptor t =
    taken c.memory.objects (map value_type descriptor.parameters) c.frame.stack >>= λ arguments.
    popped_reference arguments.1 >>= λ receiver. call_with c how t arguments.0 receiver.0 receiver.1

abbrev pub call_target : Context → Use → MethodDescriptor → MethodTarget → Outcome
call_target c Invokestatic descriptor t = once_initialized c t.declared.by (call_static c descriptor t)
call_target c how descriptor t = call_instance c how descriptor t

-- invokevirtual takes a Methodref, invokeinterface an InterfaceMethodref, and neither an `<init>` (6.5); invokestatic and invokespecial
-- take either, below version 52.0 of the calling class a Methodref alone. That none names a `<clinit>` the verifier alone asks (4.9.1).
abbrev pub is_constant_for : Class → Use → MethodReference → Bool
is_constant_for class Invokevirtual reference = is_of_class reference.constant && not (is_init reference.member.name)
is_constant_for class Invokeinterface reference = not (is_of_class reference.constant) && not (is_init reference.member.name)
is_constant_for class how reference = if is_below_52 class.major_version then is_of_class reference.constant else true

abbrev pub call : Context → Use → ℕ → Outcome
call c how index =
    found OffsetFault (method_operand (current_class (method_at c)) index) >>= λ reference.
    tested OffsetFault (is_constant_for (current_class (method_at c)) how reference) reference >>= λ reference.
    found OffsetFault (method_type_of reference.member.descriptor) >>= λ descriptor.
    unless_error c (resolve_method (world_at c) (site_at c) how reference) (call_target c how descriptor)

abbrev pub use_for_call : Invocation → Use
use_for_call invocations.Virtual = Invokevirtual
use_for_call invocations.Special = Invokespecial
use_for_call invocations.Static = Invokestatic
