-- An instruction as text (own): its mnemonic (6.5), and its operands, classes and members by their names.
use Rattle.std.specs.Prelude.{ℕ, ℤ, pos, int_lt, nat_abs, if◌then◌else◌, List, [], ◌++◌, codes, Option, Some, None}
use Rattle.std.specs.Fmt.{decimal, signed_decimal}
use Rattle.jv_pool.specs.Constants.{Entry, MemberReference, class_name_at, field_reference_at, method_reference_at, interface_method_reference_at}
use Rattle.jv_code.specs.declared.kinds.LocalForm.{LocalForm}
use Rattle.jv_code.specs.declared.kinds.LocalForm.TheVariants as local
use Rattle.jv_code.specs.declared.kinds.IncrementForm.{IncrementForm}
use Rattle.jv_code.specs.declared.kinds.IncrementForm.TheVariants as increment
use Rattle.jv_code.specs.declared.kinds.IntForm.{IntForm}
use Rattle.jv_code.specs.declared.kinds.IntForm.TheVariants as int
use Rattle.jv_code.specs.declared.kinds.LongValue.{LongValue}
use Rattle.jv_code.specs.declared.kinds.LongValue.TheVariants as long
use Rattle.jv_code.specs.declared.kinds.Computation.{Computation}
use Rattle.jv_code.specs.declared.kinds.Computation.TheVariants as compute
use Rattle.jv_code.specs.declared.insn.Insn.TheVariants as insns
use Rattle.jv_code.specs.Insns.{Instruction}
use Rattle.jv_code.specs.Targets.{target_of}
use Rattle.jv_program_base.specs.Escape.{escaped_text}
use Rattle.jv_shown.specs.Mnemonics.{mnemonic, element_name}

-- ---- what an index names

-- a constant without such a name is shown by its index
abbrev pub index_text : ℕ → List ℕ
index_text index = codes "#" ++ decimal index

abbrev pub class_text_of : ℕ → Option (List ℕ) → List ℕ
class_text_of index (Some name) = escaped_text name
class_text_of index None = index_text index

abbrev pub class_text : List Entry → ℕ → List ℕ
class_text pool index = class_text_of index (class_name_at pool index)

abbrev pub member_text : MemberReference → List ℕ
member_text member =
    escaped_text member.class ++ codes "." ++ escaped_text member.name ++ codes ":" ++ escaped_text member.descriptor

-- the first that is there
abbrev pub first_of : {A : Type 0} → Option A → Option A → Option A
first_of (Some a) other = Some a
first_of None other = other

-- the field or the method that the constant at an index names (4.4.2)
abbrev pub member_named : List Entry → ℕ → Option MemberReference
member_named pool index =
    first_of (field_reference_at pool index) (first_of (method_reference_at pool index) (interface_method_reference_at pool index))

abbrev pub member_text_of : ℕ → Option MemberReference → List ℕ
member_text_of index (Some member) = member_text member
member_text_of index None = index_text index

-- ---- numbers

-- a jump's target, in bytes from the code's start
abbrev pub target_text : Option ℕ → List ℕ
target_text (Some target) = decimal target
target_text None = codes "outside"

-- the least and the greatest number that have targets of their own, and the target of any other
abbrev pub table_text : ℤ → ℤ → Option ℕ → List ℕ
table_text low high target = codes " " ++ signed_decimal low ++ codes " to " ++ signed_decimal high ++ codes ", else " ++ target_text target

-- the local in the opcode, behind it, or behind a wide opcode
abbrev pub local_text : ℕ → LocalForm → List ℕ
local_text n local.Opcode = codes "_" ++ decimal n
local_text n local.Byte = codes " " ++ decimal n
local_text n local.Wide = codes "_w " ++ decimal n

abbrev pub increment_text : ℕ → ℤ → IncrementForm → List ℕ
increment_text n z increment.Byte = codes " " ++ decimal n ++ codes ", " ++ signed_decimal z
increment_text n z increment.Wide = codes "_w " ++ decimal n ++ codes ", " ++ signed_decimal z

-- that of iconst_<i> is behind a low line, and -1 is m1
abbrev pub opcode_text : ℤ → List ℕ
opcode_text z = if int_lt z (pos 0) then codes "_m" ++ decimal (nat_abs z) else codes "_" ++ decimal (nat_abs z)

abbrev pub int_text : ℤ → IntForm → List ℕ
int_text z int.Opcode = opcode_text z
int_text z int.Byte = codes " " ++ signed_decimal z
int_text z int.Half = codes " " ++ signed_decimal z

abbrev pub long_text : LongValue → List ℕ
long_text long.Zero = codes "_0"
long_text long.One = codes "_1"

abbrev pub computation_text : Computation → List ℕ
computation_text (compute.IntConstant z form) = int_text z form
computation_text (compute.LongConstant l) = long_text l
computation_text _ = []

-- ---- operands, behind the mnemonic of the instruction at an offset

abbrev pub operand_text : List Entry → ℕ → Instruction → List ℕ
operand_text pool pc (insns.Compute computation) = computation_text computation
operand_text pool pc (insns.PoolConstant i form) = codes " " ++ class_text pool i
operand_text pool pc (insns.PoolLongConstant i) = codes " " ++ index_text i
operand_text pool pc (insns.Load kind n form) = local_text n form
operand_text pool pc (insns.Store kind n form) = local_text n form
operand_text pool pc (insns.StoreLong n form) = local_text n form
operand_text pool pc (insns.Increment n z form) = increment_text n z form
operand_text pool pc (insns.Branch test z) = codes " " ++ target_text (target_of pc z)
operand_text pool pc (insns.Goto z form) = codes " " ++ target_text (target_of pc z)
operand_text pool pc (insns.TableSwitch padding default low high distances) = table_text low high (target_of pc default)
operand_text pool pc (insns.LookupSwitch padding default pairs) = codes " else " ++ target_text (target_of pc default)
operand_text pool pc (insns.Field access i) = codes " " ++ member_text_of i (member_named pool i)
operand_text pool pc (insns.Invoke how i) = codes " " ++ member_text_of i (member_named pool i)
operand_text pool pc (insns.InvokeInterface i count) = codes " " ++ member_text_of i (member_named pool i) ++ codes ", " ++ decimal count
operand_text pool pc (insns.New i) = codes " " ++ class_text pool i
operand_text pool pc (insns.NewArray type) = codes " " ++ element_name type
operand_text pool pc (insns.NewReferenceArray i) = codes " " ++ class_text pool i
operand_text pool pc (insns.NewMultiArray i dimensions) = codes " " ++ class_text pool i ++ codes ", " ++ decimal dimensions
operand_text pool pc (insns.CheckCast i) = codes " " ++ class_text pool i
operand_text pool pc (insns.InstanceOf i) = codes " " ++ class_text pool i
operand_text pool pc _ = []

abbrev pub instruction_text : List Entry → ℕ → Instruction → List ℕ
instruction_text pool pc insn = mnemonic insn ++ operand_text pool pc insn
