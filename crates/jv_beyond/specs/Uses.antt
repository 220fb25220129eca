-- The constants that an instruction of the profile names (JVMS 4.4, 6.5), and those of them that the profile leaves out (own).
use Rattle.std.specs.Prelude.{◌≡◌, ℕ, List, [], ◌∷◌, Option, Some, None, slice_get}
use Rattle.jv_pool.specs.Constants.{Entry, at_index}
use Rattle.jv_pool.specs.declared.constant.Constant.TheVariants.{Fieldref, Methodref, InterfaceMethodref}
use Rattle.jv_class_structure.specs.Parts.{CodeSeen, MethodSeen}
use Rattle.jv_class.specs.Supported.{IsSupportedConstant}
use Rattle.jv_code.specs.Insns.{Instruction}
use Rattle.jv_code.specs.Places.{IsAt}
use Rattle.jv_code.specs.declared.insn.Insn.TheVariants.{PoolConstant, PoolLongConstant, Field, Invoke, InvokeInterface, New, NewReferenceArray, NewMultiArray, CheckCast, InstanceOf}

-- the index that stands in the instruction
abbrev pub constant_index : Instruction → Option ℕ
constant_index (PoolConstant i form) = Some i
constant_index (PoolLongConstant i) = Some i
constant_index (Field access i) = Some i
constant_index (Invoke how i) = Some i
constant_index (InvokeInterface i count) = Some i
constant_index (New i) = Some i
constant_index (NewReferenceArray i) = Some i
constant_index (NewMultiArray i dimensions) = Some i
constant_index (CheckCast i) = Some i
constant_index (InstanceOf i) = Some i
constant_index insn = None

-- the Class and the NameAndType of a field or a method (4.4.2)
abbrev pub parts_of_member : Option Entry → Option (ℕ × ℕ)
parts_of_member (Some (Fieldref class name_and_type)) = Some (class, name_and_type)
parts_of_member (Some (Methodref class name_and_type)) = Some (class, name_and_type)
parts_of_member (Some (InterfaceMethodref class name_and_type)) = Some (class, name_and_type)
parts_of_member entry = None

abbrev pub both_of : Option (ℕ × ℕ) → List ℕ
both_of None = []
both_of (Some (one, other)) = one ∷ other ∷ []

-- the constant at an index, and of a field or a method those that it names
abbrev pub constants_at : List Entry → ℕ → List ℕ
constants_at pool index = index ∷ both_of (parts_of_member (at_index pool index))

-- the profile leaves out the constant at an index
abbrev pub IsConstantBeyond : List Entry → ℕ → Type 0
IsConstantBeyond pool index = (entry : Entry) × (at_index pool index ≡ Some entry) × (¬ IsSupportedConstant pool entry)

-- it leaves out the constant with this index, which the instruction names
pub record NamesBeyond (pool : List Entry) (insn : Instruction) (other : ℕ) : Type 0 where
  pub index : ℕ
  pub named : constant_index insn ≡ Some index
  pub place : ℕ
  pub among : slice_get (constants_at pool index) place ≡ Some other
  pub beyond : IsConstantBeyond pool other

-- an instruction at an offset of code names such a constant
abbrev pub IsUseIn : List Entry → (code : List ℕ) → (offset : ℕ) → Type 0
IsUseIn pool code offset = (insn : Instruction) × IsAt code offset insn × ((other : ℕ) × NamesBeyond pool insn other)

-- and one of a method's code
pub record IsUse (pool : List Entry) (m : MethodSeen) (offset : ℕ) : Type 0 where
  pub body : CodeSeen
  pub has_code : m.code ≡ Some body
  pub is : IsUseIn pool body.code offset
