-- What the constants of a class say as types (JVMS 4.3, 4.4.1, 4.10.1.2).
use Rattle.std.specs.Prelude.{ℕ, List, map, Option, Some, None}
use Rattle.jv_format.specs.Format.{◌>>=◌}
use Rattle.jv_text.specs.declared.descriptor.FieldTypeOf.{FieldTypeOf}
use Rattle.jv_text.specs.Descriptor.{MethodDescriptor}
use Rattle.jv_text.specs.Types.{field_type_of, method_type_of}
use Rattle.jv_pool.specs.Constants.{Entry, utf8_at, class_name_at}
use Rattle.jv_stackmap.specs.Types.{FrameType, reference_type, value_type}
use Rattle.jv_meaning_typing.specs.Named.{named_type}
use Rattle.jv_verify_types.specs.Typed.{TypeWorld, typed_field, typed_all}
use Rattle.jv_verify_types.specs.declared.texts.MethodTypes.{MethodTypes}

-- the names whose numbers stand in the types, and the constants that say them
pub record PoolTypes : Type 0 where
  pub types : TypeWorld
  pub pool : List Entry

-- ---- what a descriptor of a method says: the types of its parameters' values, without the receiver, and the type of its
-- result, None for void (4.3.3)

pub record CallTypes : Type 0 where
  pub arguments : List FrameType
  pub result : Option (FieldTypeOf (List ℕ))

abbrev pub call_types : MethodDescriptor → CallTypes
call_types method = record { arguments = map value_type method.parameters; result = method.result }

-- ---- what an index names

-- the type that the Class constant at an index names, as the type of a field would (4.4.1)
abbrev pub named_type_at : List Entry → ℕ → Option (FieldTypeOf (List ℕ))
named_type_at pool index = class_name_at pool index >>= named_type

-- the type of an object of it
abbrev pub class_type_at : List Entry → ℕ → Option FrameType
class_type_at pool index = class_name_at pool index >>= reference_type

-- the type whose field descriptor the Utf8 constant at an index is (4.3.2)
abbrev pub field_type_at : List Entry → ℕ → Option (FieldTypeOf (List ℕ))
field_type_at pool index = utf8_at pool index >>= field_type_of

-- the types whose method descriptor the Utf8 constant at an index is (4.3.3)
abbrev pub call_types_at : List Entry → ℕ → Option CallTypes
call_types_at pool index = utf8_at pool index >>= method_type_of >>= λ method. Some (call_types method)

-- ---- types by number, as the types that they stand for

abbrev pub typed_result : List (List ℕ) → Option (FieldTypeOf ℕ) → Option (FieldTypeOf (List ℕ))
typed_result names None = None
typed_result names (Some type) = Some (typed_field names type)

abbrev pub typed_call : List (List ℕ) → MethodTypes → CallTypes
typed_call names types = record { arguments = typed_all names types.arguments.now; result = typed_result names types.result }
