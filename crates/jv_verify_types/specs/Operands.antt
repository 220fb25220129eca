-- What operands name, by the class's constants (JVMS 4.4, 4.10.1.9), and the types by number that stand for it.
use Rattle.std.specs.Prelude.{◌≡◌, ℕ, ◌+◌, ◌-◌, not, nat_le, List, Option, Some, None}
use Rattle.jv_format.specs.Format.{◌>>=◌}
use Rattle.jv_text.specs.Name.{is_array_name, is_class_name, is_init}
use Rattle.jv_text.specs.Types.{field_type_of}
use Rattle.jv_pool.specs.Constants.{Entry, class_name_at}
use Rattle.jv_stackmap.specs.declared.verification.VerificationTypeOf.TheVariants as types
use Rattle.jv_stackmap.specs.Types.{FrameType, reference_type}
use Rattle.jv_meaning_typing.specs.Environment.{Environment, current_class}
use Rattle.jv_meaning_typing.specs.Named.{when, array_with, named_type, FieldUse, MethodUse}
use Rattle.jv_meaning_typing.specs.MemberRules.{is_of_class, has_plain_name}
use Rattle.jv_verify_types.specs.Typed.{name_at, typed, typed_all}
use Rattle.jv_verify_types.specs.Outcomes.{given}
use Rattle.jv_verify_types.specs.declared.fields.FieldTypes.{FieldTypes}
use Rattle.jv_verify_types.specs.declared.methods.CalledTypes.{CalledTypes}

-- an environment of a method of the class that has these constants
abbrev pub HasPool : List Entry → Environment → Type 0
HasPool pool env = (current_class env).constant_pool ≡ pool

-- ---- classes and arrays

-- a class, and no array
abbrev pub plain_class : List ℕ → Option (List ℕ)
plain_class text = when (not (is_array_name text)) text >>= λ name. when (is_class_name name) name

abbrev pub class_named_at : List Entry → ℕ → Option (List ℕ)
class_named_at pool index = class_name_at pool index >>= plain_class

-- the array of what is named, which has at most 255 dimensions
abbrev pub array_of_at : List Entry → ℕ → Option FrameType
array_of_at pool index = class_name_at pool index >>= named_type >>= λ type. when (nat_le (type.dimensions + 1) 255) (array_with type)

-- the array that is named, which has at least so many dimensions
abbrev pub array_at : List Entry → ℕ → ℕ → Option FrameType
array_at pool index dimensions =
    class_name_at pool index >>= λ text. when (is_array_name text) text >>= field_type_of >>= λ type.
    when (nat_le dimensions type.dimensions) (array_with (record { dimensions = type.dimensions - 1; element = type.element }))

-- ---- fields

-- the class that is named, and the type of the field's values
pub record IsField (names : List (List ℕ)) (named : FieldUse) (field : FieldTypes) : Type 0 where
  pub class : named.reference.class ≡ name_at names field.owner
  pub owner : named.owner ≡ types.Class (name_at names field.owner)
  pub value : named.type ≡ typed names field.value

abbrev pub FindsFieldTypes : List (List ℕ) → Option FieldUse → Option FieldTypes → Type 0
FindsFieldTypes names None None = Unit {0}
FindsFieldTypes names (Some named) (Some field) = IsField names named field
FindsFieldTypes names _ _ = ⊥

-- ---- methods

-- the class or array that is named, and the types of the arguments and of the result
pub record IsCalled (names : List (List ℕ)) (named : MethodUse) (called : CalledTypes) : Type 0 where
  pub of_class : is_of_class named.constant ≡ called.of_class
  pub init : is_init named.reference.name ≡ called.is_init
  pub plain_name : has_plain_name named ≡ called.plain_name
  pub class : reference_type named.reference.class ≡ Some (typed names called.owner)
  pub owner : named.owner ≡ typed names called.owner
  pub arguments : named.arguments ≡ typed_all names called.arguments.now
  pub result : named.result ≡ given names called.result

abbrev pub FindsCalledTypes : List (List ℕ) → Option MethodUse → Option CalledTypes → Type 0
FindsCalledTypes names None None = Unit {0}
FindsCalledTypes names (Some named) (Some called) = IsCalled names named called
FindsCalledTypes names _ _ = ⊥

-- ---- in every environment

abbrev pub WithPool : List Entry → (Environment → Type 0) → Type 0
WithPool pool P = (env : Environment) → HasPool pool env → P env
