-- Instructions by their mnemonics (JVMS 6.5): the number of a local, below 4, in the opcode; an int of -1 to 5 in the
-- opcode or another in one byte. Each is used within these bounds alone.
use Rattle.std.specs.Prelude.{ℕ, ◌+◌, ℤ, pos, ◌-ℤ◌, List, [], ◌∷◌, ◌++◌, length, Option}
use Rattle.jv_code.specs.declared.insn.Insn.TheVariants.{Compute, Load, Store, ArrayLoad, Increment, Branch, Goto, ReturnValue, Return, Field, Invoke, ArrayLength, CheckCast, InstanceOf}
use Rattle.jv_code.specs.declared.kinds.Computation.TheVariants.{IntConstant, Arithmetic}
use Rattle.jv_code.specs.declared.kinds.IntForm.TheVariants as int
use Rattle.jv_code.specs.declared.kinds.NumberKind.TheVariants as number
use Rattle.jv_code.specs.declared.kinds.ArithmeticOperator.TheVariants as operator
use Rattle.jv_code.specs.declared.kinds.ValueKind.TheVariants as value
use Rattle.jv_code.specs.declared.kinds.WordKind.TheVariants as word
use Rattle.jv_code.specs.declared.kinds.LocalForm.TheVariants as local
use Rattle.jv_code.specs.declared.kinds.NumberElement.TheVariants as element
use Rattle.jv_code.specs.declared.kinds.IncrementForm.TheVariants as increment
use Rattle.jv_code.specs.declared.kinds.Test.TheVariants.{IfInt, IfInts, IfReferences}
use Rattle.jv_code.specs.declared.kinds.Condition.TheVariants as condition
use Rattle.jv_code.specs.declared.kinds.Equality.TheVariants as equality
use Rattle.jv_code.specs.declared.kinds.JumpForm.TheVariants as jump
use Rattle.jv_code.specs.declared.kinds.FieldAccess.TheVariants as access
use Rattle.jv_code.specs.declared.kinds.Invocation.TheVariants as invocation
use Rattle.jv_code.specs.Insns.{Instruction, insn_bytes}
use Rattle.jv_code.specs.Successors.{jump_targets}

-- ---- constants and locals

abbrev pub iconst : ℕ → Instruction
iconst n = Compute (IntConstant (pos n) int.Opcode)

abbrev pub bipush : ℕ → Instruction
bipush n = Compute (IntConstant (pos n) int.Byte)

abbrev pub iload : ℕ → Instruction
iload n = Load value.Int n local.Opcode

abbrev pub aload : ℕ → Instruction
aload n = Load value.Reference n local.Opcode

abbrev pub istore : ℕ → Instruction
istore n = Store word.Int n local.Opcode

abbrev pub astore : ℕ → Instruction
astore n = Store word.Reference n local.Opcode

-- the local, and what is added to it
abbrev pub iinc : ℕ → ℕ → Instruction
iinc n by = Increment n (pos by) increment.Byte

-- ---- numbers and arrays

abbrev pub iadd : Instruction
iadd = Compute (Arithmetic number.Int operator.Add)

abbrev pub imul : Instruction
imul = Compute (Arithmetic number.Int operator.Multiply)

abbrev pub caload : Instruction
caload = ArrayLoad element.Char

abbrev pub arraylength : Instruction
arraylength = ArrayLength

-- ---- jumps: the instruction's own offset, and the offset that it jumps to

abbrev pub distance : ℕ → ℕ → ℤ
distance at target = pos target -ℤ pos at

abbrev pub ifne : ℕ → ℕ → Instruction
ifne at target = Branch (IfInt condition.NotEqual) (distance at target)

abbrev pub if_icmpeq : ℕ → ℕ → Instruction
if_icmpeq at target = Branch (IfInts condition.Equal) (distance at target)

abbrev pub if_icmpge : ℕ → ℕ → Instruction
if_icmpge at target = Branch (IfInts condition.GreaterOrEqual) (distance at target)

abbrev pub if_acmpne : ℕ → ℕ → Instruction
if_acmpne at target = Branch (IfReferences equality.Different) (distance at target)

abbrev pub goto : ℕ → ℕ → Instruction
goto at target = Goto (distance at target) jump.Half

-- ---- members and classes, by the index of their constant

abbrev pub getfield : ℕ → Instruction
getfield index = Field access.GetField index

abbrev pub putfield : ℕ → Instruction
putfield index = Field access.PutField index

abbrev pub invokespecial : ℕ → Instruction
invokespecial index = Invoke invocation.Special index

abbrev pub checkcast : ℕ → Instruction
checkcast index = CheckCast index

abbrev pub instanceof : ℕ → Instruction
instanceof index = InstanceOf index

-- ---- returns

abbrev pub ireturn : Instruction
ireturn = ReturnValue value.Int

abbrev pub areturn : Instruction
areturn = ReturnValue value.Reference

abbrev pub return : Instruction
return = Return

-- ---- where instructions stand, the first at an offset

abbrev pub offsets : ℕ → List Instruction → List ℕ
offsets at [] = []
offsets at (i ∷ more) = at ∷ offsets (at + length (insn_bytes i)) more

-- and where they jump
abbrev pub targets : ℕ → List Instruction → List (Option ℕ)
targets at [] = []
targets at (i ∷ more) = jump_targets at i ++ targets (at + length (insn_bytes i)) more
