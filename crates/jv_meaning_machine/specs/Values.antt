-- Values (JVMS 2.3, 2.4): ints, longs and references, each of which tells its kind.
use Rattle.std.specs.Prelude.{ℕ, zero, ◌%◌, ℤ, pos, Bool, true, false, List, sum_by, Option, Some, None}
use Rattle.std.specs.Int.{w8, w16, w32, cast_signed, cast_unsigned}
use Rattle.jv_text.specs.declared.descriptor.Base.{Base}
use Rattle.jv_text.specs.declared.descriptor.Base.TheVariants as bases
use Rattle.jv_text.specs.declared.descriptor.Element.{Element}
use Rattle.jv_text.specs.declared.descriptor.Element.TheVariants as elements
use Rattle.jv_text.specs.declared.descriptor.FieldTypeOf.{FieldTypeOf}
use Rattle.jv_text.specs.Types.{field_type_of}
use Rattle.jv_stackmap.specs.declared.verification.VerificationTypeOf.TheVariants as types
use Rattle.jv_stackmap.specs.declared.width.Width.{Width}
use Rattle.jv_stackmap.specs.declared.width.Width.TheVariants.{One, Two}
use Rattle.jv_stackmap.specs.Types.{FrameType, value_type}
use Rattle.jv_code.specs.declared.kinds.ValueKind.{ValueKind}
use Rattle.jv_code.specs.declared.kinds.ValueKind.TheVariants as kinds

-- A value on a stack, of which a long is one item of two words; or the content of a local variable, of which a long has two.
pub data Value : Type 0 where
  -- a number of 32 bits
  Int : (value : ℤ) → Value
  -- a number of 64 bits
  Long : (value : ℤ) → Value
  Null : Value
  -- the object or array with a number
  Reference : (object : ℕ) → Value
  -- in local variables: what stands behind a long
  Half : Value
  -- in local variables: nothing yet, or nothing any more
  Unset : Value

-- ---- words

-- the words of an item of a stack, on which the two for local variables do not stand
abbrev pub value_width : Value → Option Width
value_width (Int value) = Some One
value_width (Long value) = Some Two
value_width Null = Some One
value_width (Reference object) = Some One
value_width Half = None
value_width Unset = None

abbrev pub words_of_width : Option Width → ℕ
words_of_width (Some Two) = 2
words_of_width _ = 1

abbrev pub value_words : Value → ℕ
value_words value = words_of_width (value_width value)

abbrev pub words_of_values : List Value → ℕ
words_of_values values = sum_by value_words values

-- ---- kinds

abbrev pub is_reference_value : Value → Bool
is_reference_value Null = true
is_reference_value (Reference object) = true
is_reference_value _ = false

abbrev pub has_kind : ValueKind → Value → Bool
has_kind kinds.Int (Int value) = true
has_kind kinds.Long (Long value) = true
has_kind kinds.Reference value = is_reference_value value
has_kind _ _ = false

-- the kind of values of a verification type (4.10.1.2): which class a reference is to is asked where that matters
abbrev pub has_type : FrameType → Value → Bool
has_type types.Int value = has_kind kinds.Int value
has_type types.Long value = has_kind kinds.Long value
has_type types.Null value = is_reference_value value
has_type (types.Class name) value = is_reference_value value
has_type (types.Array components) value = is_reference_value value
has_type _ value = false

-- ---- default values, with which fields and elements begin (2.3, 2.4)

abbrev pub default_value : FrameType → Value
default_value types.Int = Int (pos 0)
default_value types.Long = Long (pos 0)
default_value _ = Null

abbrev pub default_of_type : FieldTypeOf (List ℕ) → Value
default_of_type type = default_value (value_type type)

-- by its descriptor
abbrev pub default_described : Option (FieldTypeOf (List ℕ)) → Value
default_described None = Null
default_described (Some type) = default_of_type type

abbrev pub default_of : List ℕ → Value
default_of descriptor = default_described (field_type_of descriptor)

-- ---- stores narrow an int to the field's or the element's type (6.5, bastore and its kin; own for fields): 8 or 16 signed
-- bits, 16 unsigned ones, or 1

abbrev pub low_byte : ℤ → ℤ
low_byte value = cast_signed w8 (cast_unsigned w32 value % 256)

abbrev pub low_short : ℤ → ℤ
low_short value = cast_signed w16 (cast_unsigned w32 value % 65536)

abbrev pub low_char : ℤ → ℤ
low_char value = pos (cast_unsigned w32 value % 65536)

abbrev pub narrowed_int : Base → ℤ → ℤ
narrowed_int bases.Byte value = low_byte value
narrowed_int bases.Short value = low_short value
narrowed_int bases.Char value = low_char value
narrowed_int bases.Boolean value = pos (cast_unsigned w32 value % 2)
narrowed_int _ value = value

abbrev pub narrowed_by : ℕ → Element (List ℕ) → Value → Value
narrowed_by zero (elements.Base base) (Int value) = Int (narrowed_int base value)
narrowed_by _ _ value = value

abbrev pub narrowed : FieldTypeOf (List ℕ) → Value → Value
narrowed type value = narrowed_by type.dimensions type.element value
