-- The bytes of instructions (JVMS 6.5), and where they can stand (4.9.1).
use Rattle.std.specs.Prelude.{ℕ, ◌+◌, ◌/◌, ℤ, pos, negsuc, ◌-ℤ◌, Bool, true, ◌&&◌, List, [], ◌∷◌, ◌++◌, length, nat_lt}
use Rattle.std.specs.Borrow.{Bor}
use Rattle.jv_format.specs.Format.{byte, half, quad}
use Rattle.jv_code.specs.declared.insn.Insn.{Insn}
use Rattle.jv_code.specs.declared.insn.Insn.TheVariants.{Nop, NullConstant, Compute, PoolConstant, PoolLongConstant, Load, Store, StoreLong, ArrayLoad, ReferenceArrayLoad, ArrayStore, ReferenceArrayStore, Stack, Division, Increment, Branch, Goto, TableSwitch, LookupSwitch, ReturnValue, Return, Field, Invoke, InvokeInterface, New, NewArray, NewReferenceArray, NewMultiArray, ArrayLength, Throw, CheckCast, InstanceOf}
use Rattle.jv_code.specs.declared.kinds.Computation.{Computation}
use Rattle.jv_code.specs.declared.kinds.Computation.TheVariants as compute
use Rattle.jv_code.specs.declared.kinds.LocalForm.{LocalForm}
use Rattle.jv_code.specs.declared.kinds.LocalForm.TheVariants as local
use Rattle.jv_code.specs.declared.kinds.IncrementForm.{IncrementForm}
use Rattle.jv_code.specs.declared.kinds.IncrementForm.TheVariants as increment
use Rattle.jv_code.specs.declared.kinds.IntForm.{IntForm}
use Rattle.jv_code.specs.declared.kinds.IntForm.TheVariants as int
use Rattle.jv_code.specs.declared.kinds.IndexForm.{IndexForm}
use Rattle.jv_code.specs.declared.kinds.IndexForm.TheVariants as index
use Rattle.jv_code.specs.declared.kinds.JumpForm.{JumpForm}
use Rattle.jv_code.specs.declared.kinds.JumpForm.TheVariants as jump
use Rattle.jv_code.specs.Opcodes.{int_opcode, long_opcode, load_opcode, load_0_opcode, store_opcode, store_0_opcode, array_load_opcode, array_store_opcode, stack_opcode, number_offset, arithmetic_opcode, division_opcode, shift_opcode, conversion_opcode, branch_opcode, return_opcode, field_opcode, invoke_opcode, element_code}
use Rattle.jv_code.specs.Numbers.{signed8, signed16, signed32}
use Rattle.jv_code.specs.Switches.{padding_fits, distances_fit, pairs_fit}

-- an instruction whose padding, offsets and pairs are lists of bytes
abbrev pub Instruction : Type 0
Instruction = Insn (List ℕ)

-- the instruction that a value of the code stands for: its bytes, wherever they lie in memory
abbrev pub instruction_of : Insn (Bor (List ℕ)) → Instruction
instruction_of Nop = Nop
instruction_of NullConstant = NullConstant
instruction_of (Compute a) = Compute a
instruction_of (PoolConstant a b) = PoolConstant a b
instruction_of (PoolLongConstant a) = PoolLongConstant a
instruction_of (Load a b c) = Load a b c
instruction_of (Store a b c) = Store a b c
instruction_of (StoreLong a b) = StoreLong a b
instruction_of (ArrayLoad a) = ArrayLoad a
instruction_of ReferenceArrayLoad = ReferenceArrayLoad
instruction_of (ArrayStore a) = ArrayStore a
instruction_of ReferenceArrayStore = ReferenceArrayStore
instruction_of (Stack a) = Stack a
instruction_of (Division a b) = Division a b
instruction_of (Increment a b c) = Increment a b c
instruction_of (Branch a b) = Branch a b
instruction_of (Goto a b) = Goto a b
instruction_of (TableSwitch padding default low high distances) = TableSwitch padding.now default low high distances.now
instruction_of (LookupSwitch padding default pairs) = LookupSwitch padding.now default pairs.now
instruction_of (ReturnValue a) = ReturnValue a
instruction_of Return = Return
instruction_of (Field a b) = Field a b
instruction_of (Invoke a b) = Invoke a b
instruction_of (InvokeInterface a b) = InvokeInterface a b
instruction_of (New a) = New a
instruction_of (NewArray a) = NewArray a
instruction_of (NewReferenceArray a) = NewReferenceArray a
instruction_of (NewMultiArray a b) = NewMultiArray a b
instruction_of ArrayLength = ArrayLength
instruction_of Throw = Throw
instruction_of (CheckCast a) = CheckCast a
instruction_of (InstanceOf a) = InstanceOf a

-- ---- bytes

-- an instruction with a local: the opcodes with the local in them begin at `with_0`
abbrev pub local_bytes : ℕ → ℕ → ℕ → LocalForm → List ℕ
local_bytes with_0 opcode n local.Opcode = (with_0 + n) ∷ []
local_bytes with_0 opcode n local.Byte = opcode ∷ byte.spelling n
local_bytes with_0 opcode n local.Wide = 196 ∷ opcode ∷ half.spelling n

-- iconst_<i>, bipush, sipush
abbrev pub int_bytes : ℤ → IntForm → List ℕ
int_bytes z int.Opcode = int_opcode z ∷ []
int_bytes z int.Byte = 16 ∷ signed8.spelling z
int_bytes z int.Half = 17 ∷ signed16.spelling z

-- ldc, ldc_w
abbrev pub load_constant_bytes : ℕ → IndexForm → List ℕ
load_constant_bytes i index.Byte = 18 ∷ byte.spelling i
load_constant_bytes i index.Half = 19 ∷ half.spelling i

-- iinc, and iinc behind wide
abbrev pub increment_bytes : ℕ → ℤ → IncrementForm → List ℕ
increment_bytes n z increment.Byte = 132 ∷ (byte.spelling n ++ signed8.spelling z)
increment_bytes n z increment.Wide = 196 ∷ 132 ∷ (half.spelling n ++ signed16.spelling z)

-- iconst_<i> to sipush, lconst_<l>, arithmetic, shifts, conversions, lcmp
abbrev pub computation_bytes : Computation → List ℕ
computation_bytes (compute.IntConstant z form) = int_bytes z form
computation_bytes (compute.LongConstant l) = long_opcode l ∷ []
computation_bytes (compute.Arithmetic kind op) = (arithmetic_opcode op + number_offset kind) ∷ []
computation_bytes (compute.Negate kind) = (116 + number_offset kind) ∷ []
computation_bytes (compute.Shift kind op) = (shift_opcode op + number_offset kind) ∷ []
computation_bytes (compute.Convert to) = conversion_opcode to ∷ []
computation_bytes compute.CompareLongs = 148 ∷ []

-- goto, goto_w
abbrev pub goto_bytes : ℤ → JumpForm → List ℕ
goto_bytes z jump.Half = 167 ∷ signed16.spelling z
goto_bytes z jump.Quad = 200 ∷ signed32.spelling z

-- the bytes of an instruction
abbrev pub insn_bytes : Instruction → List ℕ
insn_bytes Nop = 0 ∷ []
insn_bytes NullConstant = 1 ∷ []
insn_bytes (Compute computation) = computation_bytes computation
insn_bytes (PoolConstant i form) = load_constant_bytes i form
insn_bytes (PoolLongConstant i) = 20 ∷ half.spelling i
insn_bytes (Load kind n form) = local_bytes (load_0_opcode kind) (load_opcode kind) n form
insn_bytes (Store kind n form) = local_bytes (store_0_opcode kind) (store_opcode kind) n form
insn_bytes (StoreLong n form) = local_bytes 63 55 n form
insn_bytes (ArrayLoad kind) = array_load_opcode kind ∷ []
insn_bytes ReferenceArrayLoad = 50 ∷ []
insn_bytes (ArrayStore kind) = array_store_opcode kind ∷ []
insn_bytes ReferenceArrayStore = 83 ∷ []
insn_bytes (Stack form) = stack_opcode form ∷ []
insn_bytes (Division kind op) = (division_opcode op + number_offset kind) ∷ []
insn_bytes (Increment n z form) = increment_bytes n z form
insn_bytes (Branch test z) = branch_opcode test ∷ signed16.spelling z
insn_bytes (Goto z form) = goto_bytes z form
insn_bytes (TableSwitch padding default low high distances) =
    170 ∷ (padding ++ ((signed32.spelling default ++ (signed32.spelling low ++ signed32.spelling high)) ++ distances))
insn_bytes (LookupSwitch padding default pairs) =
    171 ∷ (padding ++ (signed32.spelling default ++ (quad.spelling (length pairs / 8) ++ pairs)))
insn_bytes (ReturnValue kind) = return_opcode kind ∷ []
insn_bytes Return = 177 ∷ []
insn_bytes (Field access i) = field_opcode access ∷ half.spelling i
insn_bytes (Invoke how i) = invoke_opcode how ∷ half.spelling i
insn_bytes (InvokeInterface i count) = 185 ∷ (half.spelling i ++ (count ∷ 0 ∷ []))
insn_bytes (New i) = 187 ∷ half.spelling i
insn_bytes (NewArray type) = 188 ∷ element_code type ∷ []
insn_bytes (NewReferenceArray i) = 189 ∷ half.spelling i
insn_bytes (NewMultiArray i dimensions) = 197 ∷ (half.spelling i ++ byte.spelling dimensions)
insn_bytes ArrayLength = 190 ∷ []
insn_bytes Throw = 191 ∷ []
insn_bytes (CheckCast i) = 192 ∷ half.spelling i
insn_bytes (InstanceOf i) = 193 ∷ half.spelling i

-- ---- where its numbers fit their fields, and the rules of a switch hold

abbrev pub local_fits : ℕ → LocalForm → Bool
local_fits n local.Opcode = nat_lt n 4
local_fits n local.Byte = byte.fits n
local_fits n local.Wide = half.fits n

-- -1 to 5
abbrev pub int_opcode_fits : ℤ → Bool
int_opcode_fits (pos n) = nat_lt n 6
int_opcode_fits (negsuc n) = nat_lt n 1

abbrev pub int_fits : ℤ → IntForm → Bool
int_fits z int.Opcode = int_opcode_fits z
int_fits z int.Byte = signed8.fits z
int_fits z int.Half = signed16.fits z

abbrev pub computation_fits : Computation → Bool
computation_fits (compute.IntConstant z form) = int_fits z form
computation_fits _ = true

abbrev pub load_constant_fits : ℕ → IndexForm → Bool
load_constant_fits i index.Byte = byte.fits i
load_constant_fits i index.Half = half.fits i

abbrev pub increment_fits : ℕ → ℤ → IncrementForm → Bool
increment_fits n z increment.Byte = byte.fits n && signed8.fits z
increment_fits n z increment.Wide = half.fits n && signed16.fits z

abbrev pub goto_fits : ℤ → JumpForm → Bool
goto_fits z jump.Half = signed16.fits z
goto_fits z jump.Quad = signed32.fits z

-- whether an instruction can stand at an offset
abbrev pub insn_fits : ℕ → Instruction → Bool
insn_fits at (Compute computation) = computation_fits computation
insn_fits at (PoolConstant i form) = load_constant_fits i form
insn_fits at (PoolLongConstant i) = half.fits i
insn_fits at (Load kind n form) = local_fits n form
insn_fits at (Store kind n form) = local_fits n form
insn_fits at (StoreLong n form) = local_fits n form
insn_fits at (Increment n z form) = increment_fits n z form
insn_fits at (Branch test z) = signed16.fits z
insn_fits at (Goto z form) = goto_fits z form
insn_fits at (TableSwitch padding default low high distances) =
    padding_fits at padding &&
    ((signed32.fits default && (signed32.fits low && signed32.fits high)) && distances_fit (high -ℤ low) distances)
insn_fits at (LookupSwitch padding default pairs) = padding_fits at padding && (signed32.fits default && pairs_fit pairs)
insn_fits at (Field access i) = half.fits i
insn_fits at (Invoke how i) = half.fits i
insn_fits at (InvokeInterface i count) = half.fits i && byte.fits count
insn_fits at (New i) = half.fits i
insn_fits at (NewReferenceArray i) = half.fits i
insn_fits at (NewMultiArray i dimensions) = half.fits i && (byte.fits dimensions && nat_lt 0 dimensions)
insn_fits at (CheckCast i) = half.fits i
insn_fits at (InstanceOf i) = half.fits i
insn_fits at _ = true
