-- Instructions that take items of fixed types and give one of a fixed type, or none (JVMS 4.10.1.9): a table.
use Rattle.std.specs.Prelude.{List, [], ◌∷◌, Option, Some, None}
use Rattle.jv_text.specs.declared.descriptor.Base.{Base}
use Rattle.jv_text.specs.declared.descriptor.Base.TheVariants as bases
use Rattle.jv_text.specs.declared.descriptor.Element.TheVariants as elements
use Rattle.jv_stackmap.specs.declared.verification.VerificationTypeOf.TheVariants as types
use Rattle.jv_stackmap.specs.Types.{FrameType}
use Rattle.jv_code.specs.Insns.{Instruction}
use Rattle.jv_code.specs.declared.insn.Insn.TheVariants as insns
use Rattle.jv_code.specs.declared.kinds.Computation.{Computation}
use Rattle.jv_code.specs.declared.kinds.Computation.TheVariants as compute
use Rattle.jv_code.specs.declared.kinds.Conversion.{Conversion}
use Rattle.jv_code.specs.declared.kinds.Conversion.TheVariants as conversions
use Rattle.jv_code.specs.declared.kinds.ElementType.{ElementType}
use Rattle.jv_code.specs.declared.kinds.ElementType.TheVariants as element_types
use Rattle.jv_code.specs.declared.kinds.NumberElement.{NumberElement}
use Rattle.jv_code.specs.declared.kinds.NumberElement.TheVariants as numbers
use Rattle.jv_code.specs.declared.kinds.NumberKind.{NumberKind}
use Rattle.jv_code.specs.declared.kinds.NumberKind.TheVariants as number_kinds
use Rattle.jv_code.specs.declared.kinds.Test.{Test}
use Rattle.jv_code.specs.declared.kinds.Test.TheVariants as tests
use Rattle.jv_meaning_typing.specs.Named.{array_with, class_components, object_class_type, throwable_type}
use Rattle.std.specs.Prelude.{codes}

-- the types of what is taken, the last of which stands on top, and of what is given
pub record Exchange : Type 0 where
  pub takes : List FrameType
  pub gives : List FrameType

abbrev pub exchange : List FrameType → List FrameType → Exchange
exchange takes gives = record { takes = takes; gives = gives }

abbrev pub number_type : NumberKind → FrameType
number_type number_kinds.Int = types.Int
number_type number_kinds.Long = types.Long

-- ---- computations

abbrev pub conversion : Conversion → Exchange
conversion conversions.IntToLong = exchange (types.Int ∷ []) (types.Long ∷ [])
conversion conversions.LongToInt = exchange (types.Long ∷ []) (types.Int ∷ [])
conversion conversions.IntToByte = exchange (types.Int ∷ []) (types.Int ∷ [])
conversion conversions.IntToChar = exchange (types.Int ∷ []) (types.Int ∷ [])
conversion conversions.IntToShort = exchange (types.Int ∷ []) (types.Int ∷ [])

abbrev pub computation : Computation → Exchange
computation (compute.IntConstant value form) = exchange [] (types.Int ∷ [])
computation (compute.LongConstant value) = exchange [] (types.Long ∷ [])
computation (compute.Arithmetic kind operator) = exchange (number_type kind ∷ number_type kind ∷ []) (number_type kind ∷ [])
computation (compute.Negate kind) = exchange (number_type kind ∷ []) (number_type kind ∷ [])
computation (compute.Shift kind operator) = exchange (number_type kind ∷ types.Int ∷ []) (number_type kind ∷ [])
computation (compute.Convert conversion_kind) = conversion conversion_kind
computation compute.CompareLongs = exchange (types.Long ∷ types.Long ∷ []) (types.Int ∷ [])

-- ---- arrays of numbers

abbrev pub array_of_base : Base → FrameType
array_of_base base = array_with (record { dimensions = 0; element = elements.Base base })

-- the arrays that an instruction of a kind takes; byte and boolean have one
abbrev pub number_arrays : NumberElement → List FrameType
number_arrays numbers.Int = array_of_base bases.Int ∷ []
number_arrays numbers.Long = array_of_base bases.Long ∷ []
number_arrays numbers.ByteOrBoolean = array_of_base bases.Byte ∷ array_of_base bases.Boolean ∷ []
number_arrays numbers.Char = array_of_base bases.Char ∷ []
number_arrays numbers.Short = array_of_base bases.Short ∷ []

-- the type of such a number on the stack
abbrev pub element_number : NumberElement → FrameType
element_number numbers.Long = types.Long
element_number _ = types.Int

-- what `newarray` makes
abbrev pub new_array_type : ElementType → FrameType
new_array_type element_types.Boolean = array_of_base bases.Boolean
new_array_type element_types.Char = array_of_base bases.Char
new_array_type element_types.Byte = array_of_base bases.Byte
new_array_type element_types.Short = array_of_base bases.Short
new_array_type element_types.Int = array_of_base bases.Int
new_array_type element_types.Long = array_of_base bases.Long

-- ---- branches; those on references are not here, since they take what does not flow to a class as well

abbrev pub test : Test → Option Exchange
test (tests.IfInt condition) = Some (exchange (types.Int ∷ []) [])
test (tests.IfInts condition) = Some (exchange (types.Int ∷ types.Int ∷ []) [])
test _ = None

-- ---- the table

abbrev pub fixed_exchange : Instruction → Option Exchange
fixed_exchange insns.Nop = Some (exchange [] [])
fixed_exchange insns.NullConstant = Some (exchange [] (types.Null ∷ []))
fixed_exchange (insns.Compute what) = Some (computation what)
fixed_exchange (insns.Division kind operator) = Some (exchange (number_type kind ∷ number_type kind ∷ []) (number_type kind ∷ []))
fixed_exchange (insns.Branch condition distance) = test condition
fixed_exchange (insns.Goto distance form) = Some (exchange [] [])
fixed_exchange (insns.TableSwitch padding default low high distances) = Some (exchange (types.Int ∷ []) [])
fixed_exchange (insns.LookupSwitch padding default pairs) = Some (exchange (types.Int ∷ []) [])
fixed_exchange insns.ReferenceArrayStore =
    Some (exchange (array_with (class_components (codes "java/lang/Object")) ∷ types.Int ∷ object_class_type ∷ []) [])
fixed_exchange (insns.NewArray element) = Some (exchange (types.Int ∷ []) (new_array_type element ∷ []))
fixed_exchange insns.Throw = Some (exchange (throwable_type ∷ []) [])
fixed_exchange _ = None
