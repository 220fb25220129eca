-- A frame as text (own): the types of its local variables and of its stack (JVMS 4.10.1.2, 4.10.1.4).
use Rattle.std.specs.Prelude.{ℕ, zero, suc, Bool, true, false, List, [], ◌∷◌, ◌++◌, codes}
use Rattle.std.specs.Fmt.{decimal}
use Rattle.std.specs.List.{flat_map}
use Rattle.jv_text.specs.declared.descriptor.Base.{Base}
use Rattle.jv_text.specs.declared.descriptor.Base.TheVariants as bases
use Rattle.jv_text.specs.declared.descriptor.Element.{Element}
use Rattle.jv_text.specs.declared.descriptor.Element.TheVariants as elements
use Rattle.jv_stackmap.specs.declared.verification.VerificationTypeOf.{VerificationTypeOf}
use Rattle.jv_stackmap.specs.declared.verification.VerificationTypeOf.TheVariants as types
use Rattle.jv_stackmap.specs.Frames.{Frame}
use Rattle.jv_stackmap.specs.Types.{FrameType}
use Rattle.jv_program_base.specs.Escape.{escaped_text}

-- ---- types

abbrev pub base_name : Base → List ℕ
base_name bases.Byte = codes "byte"
base_name bases.Char = codes "char"
base_name bases.Double = codes "double"
base_name bases.Float = codes "float"
base_name bases.Int = codes "int"
base_name bases.Long = codes "long"
base_name bases.Short = codes "short"
base_name bases.Boolean = codes "boolean"

abbrev pub element_text : Element (List ℕ) → List ℕ
element_text (elements.Base base) = base_name base
element_text (elements.Class name) = escaped_text name

-- a pair of brackets for each dimension
abbrev pub brackets_text : ℕ → List ℕ
brackets_text zero = []
brackets_text (suc n) = brackets_text n ++ codes "[]"

-- an array has a dimension more than its components
abbrev pub type_text : FrameType → List ℕ
type_text types.Top = codes "top"
type_text types.Int = codes "int"
type_text types.Long = codes "long"
type_text types.Null = codes "null"
type_text types.UninitializedThis = codes "uninitializedThis"
type_text (types.Class name) = escaped_text name
type_text (types.Array components) = element_text components.element ++ brackets_text components.dimensions ++ codes "[]"
type_text (types.Uninitialized offset) = codes "uninitialized(offset " ++ decimal offset ++ codes ")"

-- behind another one
abbrev pub next_text : FrameType → List ℕ
next_text type = codes ", " ++ type_text type

abbrev pub types_text : List FrameType → List ℕ
types_text [] = []
types_text (type ∷ more) = codes " " ++ type_text type ++ flat_map next_text more

-- ---- lines

-- types behind whose they are and what they are
abbrev pub types_line : (whose word : List ℕ) → List FrameType → List ℕ
types_line whose word list = codes "  " ++ whose ++ word ++ types_text list ++ 10 ∷ []

abbrev pub flag_line : (whose : List ℕ) → Bool → List ℕ
flag_line whose true = codes "  " ++ whose ++ codes "flag uninitializedThis" ++ 10 ∷ []
flag_line whose false = []

-- the local variables, the first first, the stack, the top first, and the flag, where it is set
abbrev pub frame_text : (whose : List ℕ) → Frame → List ℕ
frame_text whose f =
    types_line whose (codes "locals") f.locals ++ types_line whose (codes "stack") f.stack ++ flag_line whose f.flag_this_uninit
