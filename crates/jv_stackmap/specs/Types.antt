-- Verification types (JVMS 4.10.1.2): which one a Class constant names, which one the values of a field type have, and how
-- many words a type takes.
use Rattle.std.specs.Prelude.{ℕ, zero, suc, ◌-◌, List, sum_by, Option, Some, None, if◌then◌else◌}
use Rattle.jv_format.specs.Format.{◌>>=◌}
use Rattle.jv_text.specs.declared.descriptor.Base.{Base}
use Rattle.jv_text.specs.declared.descriptor.Base.TheVariants as bases
use Rattle.jv_text.specs.declared.descriptor.Element.{Element}
use Rattle.jv_text.specs.declared.descriptor.Element.TheVariants as elements
use Rattle.jv_text.specs.declared.descriptor.FieldTypeOf.{FieldTypeOf}
use Rattle.jv_text.specs.Name.{is_class_name, is_array_name}
use Rattle.jv_text.specs.Types.{field_type_of}
use Rattle.jv_stackmap.specs.declared.verification.VerificationTypeOf.{VerificationTypeOf}
use Rattle.jv_stackmap.specs.declared.verification.VerificationTypeOf.TheVariants as types

-- a type whose class name is a list of bytes
abbrev pub FrameType : Type 0
FrameType = VerificationTypeOf (List ℕ)

-- ---- what a Class constant names (4.4.1)

-- the type of an array's components: a dimension fewer
abbrev pub component : FieldTypeOf (List ℕ) → FieldTypeOf (List ℕ)
component type = record { dimensions = type.dimensions - 1; element = type.element }

abbrev pub array_of : FieldTypeOf (List ℕ) → Option FrameType
array_of type = Some (types.Array (component type))

-- an array by its descriptor, or a class by its name
abbrev pub reference_type : List ℕ → Option FrameType
reference_type text =
    if is_array_name text then field_type_of text >>= array_of
    else if is_class_name text then Some (types.Class text) else None

-- ---- the values of a field type (4.3.2)

-- an int for each of the small types; float and double, which no supported class has, have no type here but top (own)
abbrev pub primitive_type : Base → FrameType
primitive_type bases.Byte = types.Int
primitive_type bases.Char = types.Int
primitive_type bases.Short = types.Int
primitive_type bases.Boolean = types.Int
primitive_type bases.Int = types.Int
primitive_type bases.Long = types.Long
primitive_type bases.Float = types.Top
primitive_type bases.Double = types.Top

abbrev pub value_type_by : ℕ → Element (List ℕ) → FrameType
value_type_by zero (elements.Base base) = primitive_type base
value_type_by zero (elements.Class name) = types.Class name
value_type_by (suc n) element = types.Array (record { dimensions = n; element = element })

-- the type of a value of a field type, as of a parameter
abbrev pub value_type : FieldTypeOf (List ℕ) → FrameType
value_type type = value_type_by type.dimensions type.element

-- ---- words

-- two words for a long, one for every other type
abbrev pub width : FrameType → ℕ
width types.Long = 2
width _ = 1

abbrev pub words : List FrameType → ℕ
words entries = sum_by width entries
