-- What the constants of a pool name, as fields and methods (JVMS 4.4.2).
use Rattle.std.specs.Prelude.{◌≡◌, ⊤, ℕ, List, map, not, Option, Some, None}
use Rattle.jv_format.specs.Format.{◌>>=◌}
use Rattle.jv_text.specs.declared.descriptor.Element.{Element}
use Rattle.jv_text.specs.declared.descriptor.FieldTypeOf.{FieldTypeOf}
use Rattle.jv_text.specs.Name.{is_array_name}
use Rattle.jv_text.specs.Seen.{seen_field_type}
use Rattle.jv_text.specs.Types.{field_type_of, method_type_of}
use Rattle.jv_pool.specs.Constants.{Entry, MemberReference, field_reference_at, interface_method_reference_at, method_reference_at}
use Rattle.jv_pool.specs.Seen.{seen_member}
use Rattle.jv_stackmap.specs.Types.{FrameType, array_of, reference_type, value_type, value_type_by}
use Rattle.jv_stackmap.specs.Seen.{seen_type}
use Rattle.std.specs.Borrow.{Bor}
use Rattle.std.specs.Option.{option_or}
use Rattle.jv_meaning_typing.specs.Named.{FieldUse, field_use, when}
use Rattle.jv_operands.specs.declared.named.FieldNamed.{FieldNamed}
use Rattle.jv_operands.specs.declared.named.MethodNamed.{MethodNamed}
use Rattle.jv_operands.specs.Seen.{seen_want}
use Rattle.jv_operands.specs.Wants.{FrameWant, of_type, of_types}

-- the type of a value that is no array
abbrev pub element_type : Element (List ℕ) → FrameType
element_type element = value_type_by 0 element

abbrev pub array_named : List ℕ → Option FrameType
array_named text = field_type_of text >>= array_of

-- ---- fields

abbrev pub seen_field : FieldNamed → FieldUse
seen_field f = record { reference = seen_member f.reference; owner = seen_type f.owner; type = seen_type f.value }

abbrev pub field_in : MemberReference → Option FieldUse
field_in reference =
    when (not (is_array_name reference.class)) reference >>= λ reference.
    reference_type reference.class >>= λ owner. field_type_of reference.descriptor >>= λ type. Some (field_use reference owner type)

abbrev pub field_named_in : List Entry → ℕ → Option FieldUse
field_named_in pool index = field_reference_at pool index >>= field_in

-- what is wanted for a value of a field type
abbrev pub wanted_as : FieldTypeOf (Bor (List ℕ)) → FrameWant
wanted_as type = of_type (value_type (seen_field_type type))

-- ---- methods: the name, the owner and the arguments

pub record MethodShown : Type 0 where
  pub name : List ℕ
  pub owner : FrameType
  pub arguments : List FrameType

abbrev pub types_of : List (FieldTypeOf (List ℕ)) → List FrameType
types_of parameters = map value_type parameters

abbrev pub shown : List ℕ → FrameType → List (FieldTypeOf (List ℕ)) → MethodShown
shown name owner parameters = record { name = name; owner = owner; arguments = types_of parameters }

abbrev pub method_in : MemberReference → Option MethodShown
method_in reference =
    reference_type reference.class >>= λ owner. method_type_of reference.descriptor >>= λ of.
    Some (shown reference.name owner of.parameters)

abbrev pub interface_callable_at : List Entry → ℕ → Option MemberReference
interface_callable_at pool index = interface_method_reference_at pool index >>= λ r. when (not (is_array_name r.class)) r

abbrev pub callable_at : List Entry → ℕ → Option MemberReference
callable_at pool index = option_or (method_reference_at pool index) (interface_callable_at pool index)

abbrev pub method_named_in : List Entry → ℕ → Option MethodShown
method_named_in pool index = callable_at pool index >>= method_in

pub record HasParts (m : MethodShown) (named : MethodNamed) : Type 0 where
  pub name : named.name.now ≡ m.name
  pub owner : seen_type named.owner ≡ m.owner
  pub wants : map seen_want named.wants.items ≡ of_types m.arguments

abbrev pub FindsMethod : Option MethodShown → Option MethodNamed → Type 0
FindsMethod None None = ⊤
FindsMethod (Some m) (Some named) = HasParts m named
FindsMethod _ _ = ⊥
