-- What the operands of a method's instructions name (JVMS 4.10.1.3, 4.10.1.9), as types.
use Rattle.std.specs.Prelude.{ℕ, ◌+◌, ◌-◌, Bool, true, false, not, ◌&&◌, nat_le, List, [], ◌∷◌, map, Option, Some, None, unwrap_or, codes, if◌then◌else◌}
use Rattle.jv_format.specs.Format.{◌>>=◌}
use Rattle.jv_text.specs.declared.descriptor.Element.TheVariants as elements
use Rattle.jv_text.specs.declared.descriptor.FieldTypeOf.{FieldTypeOf}
use Rattle.jv_text.specs.Descriptor.{MethodDescriptor}
use Rattle.jv_text.specs.Name.{is_array_name, is_class_name}
use Rattle.jv_text.specs.Types.{field_type_of, method_type_of}
use Rattle.jv_pool.specs.declared.constant.Constant.TheVariants as constants
use Rattle.jv_pool.specs.Constants.{Entry, at_index, MemberReference}
use Rattle.jv_class_structure.specs.Flags.{has, acc_protected, acc_static}
use Rattle.jv_stackmap.specs.declared.verification.VerificationTypeOf.TheVariants as types
use Rattle.jv_stackmap.specs.Types.{FrameType, reference_type, value_type}
use Rattle.jv_meaning_world.specs.World.{Loaded, World, class_named, same_package}
use Rattle.jv_meaning_world.specs.LookUps.{is_subclass, lookup_field, lookup_method}
use Rattle.jv_meaning_typing.specs.Operands.{class_operand, field_operand, MethodConstant, MethodReference, method_operand}
use Rattle.jv_meaning_typing.specs.Operands.MethodConstant.{Methodref, InterfaceMethodref}
use Rattle.jv_meaning_typing.specs.Access.{same_class}
use Rattle.jv_meaning_typing.specs.Environment.{Environment, current_class}

abbrev pub class_type : List ℕ → FrameType
class_type name = types.Class name

abbrev pub object_class_type : FrameType
object_class_type = class_type (codes "java/lang/Object")

abbrev pub throwable_type : FrameType
throwable_type = class_type (codes "java/lang/Throwable")

abbrev pub string_type : FrameType
string_type = class_type (codes "java/lang/String")

abbrev pub current_type : Environment → FrameType
current_type env = class_type (current_class env).name

-- the array with these components
abbrev pub array_with : FieldTypeOf (List ℕ) → FrameType
array_with components = types.Array components

abbrev pub class_components : List ℕ → FieldTypeOf (List ℕ)
class_components name = record { dimensions = 0; element = elements.Class name }

abbrev pub when : {A : Type 0} → Bool → A → Option A
when test a = if test then Some a else None

-- ---- constants that are pushed (ldc; 4.10.1.9)

-- of one word: an int, or a string; a class literal is none of this host's (own)
abbrev pub constant_type_of : Option Entry → Option FrameType
constant_type_of (Some (constants.Integer bits)) = Some types.Int
constant_type_of (Some (constants.String text)) = Some string_type
constant_type_of _ = None

abbrev pub constant_type : Environment → ℕ → Option FrameType
constant_type env index = constant_type_of (at_index (current_class env).constant_pool index)

-- of two words: a long
abbrev pub long_constant_type_of : Option Entry → Option FrameType
long_constant_type_of (Some (constants.Long high low)) = Some types.Long
long_constant_type_of _ = None

abbrev pub long_constant_type : Environment → ℕ → Option FrameType
long_constant_type env index = long_constant_type_of (at_index (current_class env).constant_pool index)

-- ---- classes

-- what the text of a Class constant says, as the type of a field would
abbrev pub named_type : List ℕ → Option (FieldTypeOf (List ℕ))
named_type text =
    if is_array_name text then field_type_of text
    else when (is_class_name text) (class_components text)

-- the type that an index names, which is a class, an interface or an array
abbrev pub operand_type : Environment → ℕ → Option FrameType
operand_type env index = class_operand (current_class env) index >>= reference_type

-- the class or interface that an index names, by its name
abbrev pub operand_name : Environment → ℕ → Option (List ℕ)
operand_name env index = class_operand (current_class env) index >>= λ text. when (not (is_array_name text)) text

-- the array of what an index names, which has at most 255 dimensions
abbrev pub array_of_operand : Environment → ℕ → Option FrameType
array_of_operand env index =
    class_operand (current_class env) index >>= named_type >>= λ type. when (nat_le (type.dimensions + 1) 255) (array_with type)

-- the array that an index names, which has at least so many dimensions
abbrev pub array_operand : Environment → ℕ → ℕ → Option FrameType
array_operand env index dimensions =
    class_operand (current_class env) index >>= λ text. when (is_array_name text) text >>= field_type_of >>= λ type.
    when (nat_le dimensions type.dimensions) (array_with (record { dimensions = type.dimensions - 1; element = type.element }))

-- ---- fields: the class that the index names, and the type of the field's values. No field of an array is named.

pub record FieldUse : Type 0 where
  pub reference : MemberReference
  pub owner : FrameType
  pub type : FrameType

abbrev pub field_use : MemberReference → FrameType → FieldTypeOf (List ℕ) → FieldUse
field_use reference owner type = record { reference = reference; owner = owner; type = value_type type }

abbrev pub field_named_by : Environment → ℕ → Option FieldUse
field_named_by env index =
    field_operand (current_class env) index >>= λ reference. when (not (is_array_name reference.class)) reference >>= λ reference.
    reference_type reference.class >>= λ owner. field_type_of reference.descriptor >>= λ type. Some (field_use reference owner type)

-- ---- methods: the class that the index names, the types of the arguments, and that of the result, if it has one. No
-- method of an array is named as that of an interface.

pub record MethodUse : Type 0 where
  pub constant : MethodConstant
  pub reference : MemberReference
  pub owner : FrameType
  pub arguments : List FrameType
  pub result : List FrameType

abbrev pub result_types : Option (FieldTypeOf (List ℕ)) → List FrameType
result_types None = []
result_types (Some type) = value_type type ∷ []

abbrev pub method_use : MethodReference → FrameType → MethodDescriptor → MethodUse
method_use method owner descriptor = record {
  constant = method.constant;
  reference = method.member;
  owner = owner;
  arguments = map value_type descriptor.parameters;
  result = result_types descriptor.result;
}

abbrev pub can_be_of : MethodConstant → List ℕ → Bool
can_be_of Methodref text = true
can_be_of InterfaceMethodref text = not (is_array_name text)

abbrev pub method_named_by : Environment → ℕ → Option MethodUse
method_named_by env index =
    method_operand (current_class env) index >>= λ method. when (can_be_of method.constant method.member.class) method >>= λ method.
    reference_type method.member.class >>= λ owner. method_type_of method.member.descriptor >>= λ descriptor.
    Some (method_use method owner descriptor)

-- ---- protected members (4.10.1.8, own wording)

-- The class is a proper superclass of the current one, and what is found from it is protected, no static member, and
-- declared in another run-time package.
abbrev pub is_guarded : World → (current named by : Loaded) → ℕ → Bool
is_guarded world current named by flags =
    is_subclass world current named && not (same_class current named)
    && has flags acc_protected && not (has flags acc_static) && not (same_package current by)

abbrev pub is_guarded_field : World → (current : Loaded) → MemberReference → Bool
is_guarded_field world current reference =
    unwrap_or (class_named world reference.class >>= λ named.
    lookup_field world named reference.name reference.descriptor >>= λ d.
    Some (is_guarded world current named d.by d.field.access_flags)) false

abbrev pub is_guarded_method : World → (current : Loaded) → MemberReference → Bool
is_guarded_method world current reference =
    unwrap_or (class_named world reference.class >>= λ named.
    lookup_method world named reference.name reference.descriptor >>= λ d.
    Some (is_guarded world current named d.by d.method.access_flags)) false

-- what an object has to flow to beside the class that is named, if a guarded member is used on it
abbrev pub guard : Environment → Bool → List FrameType
guard env guarded = if guarded then current_type env ∷ [] else []
