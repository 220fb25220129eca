-- How an instruction is read from the front of bytes.
use Rattle.std.specs.Prelude.{◌≡◌, ℕ, ℤ, true, List, [], ◌∷◌, Option, Some, None, nat_lt, ◌==◌, if◌then◌else◌}
use Rattle.std.specs.Borrow.{Bor}
use Rattle.jv_format.specs.Format.{Format, ◌>>=◌, byte, half}
use Rattle.jv_format.specs.Readers.{both, such_that, found_as}
use Rattle.jv_code.specs.declared.insn.Insn.{Insn}
use Rattle.jv_code.specs.declared.insn.Insn.TheVariants.{Nop, NullConstant, Compute, PoolConstant, PoolLongConstant, Load, Store, StoreLong, ArrayLoad, ReferenceArrayLoad, ArrayStore, ReferenceArrayStore, Stack, Division, Increment, Branch, Goto, TableSwitch, LookupSwitch, ReturnValue, Return, Field, Invoke, InvokeInterface, New, NewArray, NewReferenceArray, NewMultiArray, ArrayLength, Throw, CheckCast, InstanceOf}
use Rattle.jv_code.specs.declared.kinds.LocalForm.{LocalForm}
use Rattle.jv_code.specs.declared.kinds.LocalForm.TheVariants as local
use Rattle.jv_code.specs.declared.kinds.IncrementForm.TheVariants as increment
use Rattle.jv_code.specs.declared.kinds.IntForm.TheVariants as int
use Rattle.jv_code.specs.declared.kinds.IndexForm.TheVariants as index
use Rattle.jv_code.specs.declared.kinds.JumpForm.TheVariants as jump
use Rattle.jv_code.specs.declared.kinds.ElementType.{ElementType}
use Rattle.jv_code.specs.declared.kinds.ElementType.TheVariants as element
use Rattle.jv_code.specs.declared.kinds.Computation.TheVariants as compute
use Rattle.jv_code.specs.declared.kinds.Test.{Test}
use Rattle.jv_code.specs.declared.shapes.IndexUse.{IndexUse}
use Rattle.jv_code.specs.declared.shapes.IndexUse.TheVariants as use_of
use Rattle.jv_code.specs.declared.shapes.LocalUse.{LocalUse}
use Rattle.jv_code.specs.declared.shapes.LocalUse.TheVariants as local_use
use Rattle.jv_code.specs.declared.shapes.WholeInsn.{WholeInsn}
use Rattle.jv_code.specs.declared.shapes.WholeInsn.TheVariants as whole
use Rattle.jv_code.specs.declared.shapes.OpcodeShape.{OpcodeShape}
use Rattle.jv_code.specs.declared.shapes.OpcodeShape.TheVariants as shape
use Rattle.jv_code.specs.Opcodes.{element_code}
use Rattle.jv_code.specs.Numbers.{signed8, signed16, signed32}
use Rattle.jv_code.specs.Inside.SwitchReading.{table_switch, lookup_switch, known_lookup_switch}
use Rattle.jv_code.specs.Insns.{Instruction, instruction_of, insn_bytes, insn_fits}
use Rattle.jv_code.specs.Inside.Shapes.{shape_at}

-- ---- the instructions that their operands make

abbrev pub indexed : IndexUse → ℕ → Instruction
indexed use_of.PoolConstant i = PoolConstant i index.Half
indexed use_of.PoolLongConstant i = PoolLongConstant i
indexed (use_of.Field access) i = Field access i
indexed (use_of.Invoke how) i = Invoke how i
indexed use_of.New i = New i
indexed use_of.NewReferenceArray i = NewReferenceArray i
indexed use_of.CheckCast i = CheckCast i
indexed use_of.InstanceOf i = InstanceOf i

abbrev pub with_local : LocalUse → LocalForm → ℕ → Instruction
with_local (local_use.Load kind) form n = Load kind n form
with_local (local_use.Store kind) form n = Store kind n form
with_local local_use.StoreLong form n = StoreLong n form

-- a local in the opcode
abbrev pub whole_insn : WholeInsn → Instruction
whole_insn whole.Nop = Nop
whole_insn whole.NullConstant = NullConstant
whole_insn (whole.Compute computation) = Compute computation
whole_insn (whole.Local for n) = with_local for local.Opcode n
whole_insn (whole.ArrayLoad kind) = ArrayLoad kind
whole_insn whole.ReferenceArrayLoad = ReferenceArrayLoad
whole_insn (whole.ArrayStore kind) = ArrayStore kind
whole_insn whole.ReferenceArrayStore = ReferenceArrayStore
whole_insn (whole.Stack form) = Stack form
whole_insn (whole.Division kind op) = Division kind op
whole_insn (whole.ReturnValue kind) = ReturnValue kind
whole_insn whole.Return = Return
whole_insn whole.ArrayLength = ArrayLength
whole_insn whole.Throw = Throw

abbrev pub branch_by : Test → ℤ → Instruction
branch_by test z = Branch test z

abbrev pub goto_by : ℤ → Instruction
goto_by z = Goto z jump.Half

abbrev pub far_goto_by : ℤ → Instruction
far_goto_by z = Goto z jump.Quad

abbrev pub byte_constant : ℤ → Instruction
byte_constant z = Compute (compute.IntConstant z int.Byte)

abbrev pub half_constant : ℤ → Instruction
half_constant z = Compute (compute.IntConstant z int.Half)

abbrev pub pool_byte : ℕ → Instruction
pool_byte i = PoolConstant i index.Byte

abbrev pub increment_by : ℕ × ℤ → Instruction
increment_by p = Increment p.0 p.1 increment.Byte

abbrev pub wide_increment_by : ℕ × ℤ → Instruction
wide_increment_by p = Increment p.0 p.1 increment.Wide

abbrev pub table_switch_of : List ℕ × ((ℤ × (ℤ × ℤ)) × List ℕ) → Instruction
table_switch_of p = TableSwitch p.0 p.1.0.0 p.1.0.1.0 p.1.0.1.1 p.1.1

abbrev pub lookup_switch_of : List ℕ × (ℤ × List ℕ) → Instruction
lookup_switch_of p = LookupSwitch p.0 p.1.0 p.1.1

abbrev pub invoke_interface_of : ℕ × ℕ → Instruction
invoke_interface_of p = InvokeInterface p.0 p.1

abbrev pub new_array_of : ElementType → Instruction
new_array_of type = NewArray type

abbrev pub new_multi_array_of : ℕ × ℕ → Instruction
new_multi_array_of p = NewMultiArray p.0 p.1

-- ---- operands

-- what a format finds at the front, as an instruction
abbrev pub made : {A : Type 0} → Format A → (A → Instruction) → List ℕ → Option (Instruction × List ℕ)
made f to bytes = f.read bytes >>= found_as to

-- a count and a zero byte
abbrev pub count_read : List ℕ → Option (ℕ × List ℕ)
count_read [] = None
count_read (count ∷ []) = None
count_read (count ∷ zero_byte ∷ rest) = if zero_byte == 0 then Some (count, rest) else None

abbrev pub count : Format ℕ
count = record { spelling = λ n. n ∷ 0 ∷ []; fits = byte.fits; read = count_read }

-- what newarray's codes tell
abbrev pub element_at : ℕ → Option ElementType
element_at code =
    if code == 4 then Some element.Boolean
    else if code == 5 then Some element.Char
    else if code == 8 then Some element.Byte
    else if code == 9 then Some element.Short
    else if code == 10 then Some element.Int
    else if code == 11 then Some element.Long
    else None

abbrev pub element_found : List ℕ → ElementType → Option (ElementType × List ℕ)
element_found rest type = Some (type, rest)

abbrev pub element_read : List ℕ → Option (ElementType × List ℕ)
element_read [] = None
element_read (code ∷ rest) = element_at code >>= element_found rest

abbrev pub element_type : Format ElementType
element_type = record { spelling = λ type. element_code type ∷ []; fits = λ _. true; read = element_read }

-- at least one
abbrev pub dimensions : Format ℕ
dimensions = such_that (λ n. nat_lt 0 n) byte

-- what follows the opcode of a switch
abbrev pub table_switch_read : ℕ → List ℕ → Option (Instruction × List ℕ)
table_switch_read at rest = made (table_switch at) table_switch_of rest

abbrev pub lookup_switch_read : ℕ → List ℕ → Option (Instruction × List ℕ)
lookup_switch_read at rest = made (lookup_switch at) lookup_switch_of rest

-- what follows the opcode behind wide
abbrev pub wide_operands : List ℕ → OpcodeShape → Option (Instruction × List ℕ)
wide_operands rest (shape.Local for) = made half (with_local for local.Wide) rest
wide_operands rest shape.Increment = made (both half signed16) wide_increment_by rest
wide_operands rest _ = None

-- what an opcode at the front tells, and then what follows it
abbrev pub told : (List ℕ → OpcodeShape → Option (Instruction × List ℕ)) → ℕ × List ℕ → Option (Instruction × List ℕ)
told read x = shape_at x.0 >>= read x.1

abbrev pub wide_read : List ℕ → Option (Instruction × List ℕ)
wide_read bytes = byte.read bytes >>= told wide_operands

-- what follows an opcode, where the instruction stands at an offset
abbrev pub operands : ℕ → List ℕ → OpcodeShape → Option (Instruction × List ℕ)
operands at rest (shape.Whole w) = Some (whole_insn w, rest)
operands at rest (shape.Index for) = made half (indexed for) rest
operands at rest (shape.Local for) = made byte (with_local for local.Byte) rest
operands at rest (shape.Branch test) = made signed16 (branch_by test) rest
operands at rest shape.Goto = made signed16 goto_by rest
operands at rest shape.FarGoto = made signed32 far_goto_by rest
operands at rest shape.ByteConstant = made signed8 byte_constant rest
operands at rest shape.HalfConstant = made signed16 half_constant rest
operands at rest shape.PoolByte = made byte pool_byte rest
operands at rest shape.Increment = made (both byte signed8) increment_by rest
operands at rest shape.TableSwitch = table_switch_read at rest
operands at rest shape.LookupSwitch = lookup_switch_read at rest
operands at rest shape.InvokeInterface = made (both half count) invoke_interface_of rest
operands at rest shape.NewArray = made element_type new_array_of rest
operands at rest shape.NewMultiArray = made (both half dimensions) new_multi_array_of rest
operands at rest shape.Wide = wide_read rest

abbrev pub insn_read : ℕ → List ℕ → Option (Instruction × List ℕ)
insn_read at bytes = byte.read bytes >>= told (operands at)

abbrev pub insn : ℕ → Format Instruction
insn at = record { spelling = insn_bytes; fits = insn_fits at; read = insn_read at }

-- the same where an instruction is known to stand
abbrev pub known_lookup_switch_read : ℕ → List ℕ → Option (Instruction × List ℕ)
known_lookup_switch_read at rest = made (known_lookup_switch at) lookup_switch_of rest

abbrev pub known_insn_read : ℕ → List ℕ → Option (Instruction × List ℕ)
known_insn_read at [] = None
known_insn_read at (opcode ∷ rest) = if opcode == 171 then known_lookup_switch_read at rest else insn_read at (opcode ∷ rest)

-- What a function found at the front is what is read there.
abbrev pub Reads : Option (Instruction × List ℕ) → Option (Insn (Bor (List ℕ)) × Bor (List ℕ)) → Type 0
Reads read None = read ≡ None
Reads read (Some x) = read ≡ Some (instruction_of x.0, x.1.now)
