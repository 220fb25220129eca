-- The mnemonics of the profile's instructions (JVMS 6.5, 7), without the local or the number that some of them end with.
use Rattle.std.specs.Prelude.{ℕ, List, codes}
use Rattle.jv_code.specs.declared.kinds.ValueKind.{ValueKind}
use Rattle.jv_code.specs.declared.kinds.ValueKind.TheVariants as value
use Rattle.jv_code.specs.declared.kinds.WordKind.{WordKind}
use Rattle.jv_code.specs.declared.kinds.WordKind.TheVariants as word
use Rattle.jv_code.specs.declared.kinds.NumberKind.{NumberKind}
use Rattle.jv_code.specs.declared.kinds.NumberKind.TheVariants as number
use Rattle.jv_code.specs.declared.kinds.NumberElement.{NumberElement}
use Rattle.jv_code.specs.declared.kinds.NumberElement.TheVariants as kind
use Rattle.jv_code.specs.declared.kinds.ElementType.{ElementType}
use Rattle.jv_code.specs.declared.kinds.ElementType.TheVariants as element
use Rattle.jv_code.specs.declared.kinds.StackForm.{StackForm}
use Rattle.jv_code.specs.declared.kinds.StackForm.TheVariants as stack
use Rattle.jv_code.specs.declared.kinds.ArithmeticOperator.{ArithmeticOperator}
use Rattle.jv_code.specs.declared.kinds.ArithmeticOperator.TheVariants as operator
use Rattle.jv_code.specs.declared.kinds.DivisionOperator.{DivisionOperator}
use Rattle.jv_code.specs.declared.kinds.DivisionOperator.TheVariants as division
use Rattle.jv_code.specs.declared.kinds.ShiftOperator.{ShiftOperator}
use Rattle.jv_code.specs.declared.kinds.ShiftOperator.TheVariants as shift
use Rattle.jv_code.specs.declared.kinds.Conversion.{Conversion}
use Rattle.jv_code.specs.declared.kinds.Conversion.TheVariants as conversion
use Rattle.jv_code.specs.declared.kinds.Condition.{Condition}
use Rattle.jv_code.specs.declared.kinds.Condition.TheVariants as condition
use Rattle.jv_code.specs.declared.kinds.Equality.{Equality}
use Rattle.jv_code.specs.declared.kinds.Equality.TheVariants as equality
use Rattle.jv_code.specs.declared.kinds.Test.{Test}
use Rattle.jv_code.specs.declared.kinds.Test.TheVariants as test
use Rattle.jv_code.specs.declared.kinds.FieldAccess.{FieldAccess}
use Rattle.jv_code.specs.declared.kinds.FieldAccess.TheVariants as access
use Rattle.jv_code.specs.declared.kinds.Invocation.{Invocation}
use Rattle.jv_code.specs.declared.kinds.Invocation.TheVariants as invocation
use Rattle.jv_code.specs.declared.kinds.IntForm.{IntForm}
use Rattle.jv_code.specs.declared.kinds.IntForm.TheVariants as int
use Rattle.jv_code.specs.declared.kinds.IndexForm.{IndexForm}
use Rattle.jv_code.specs.declared.kinds.IndexForm.TheVariants as index
use Rattle.jv_code.specs.declared.kinds.JumpForm.{JumpForm}
use Rattle.jv_code.specs.declared.kinds.JumpForm.TheVariants as jump
use Rattle.jv_code.specs.declared.kinds.Computation.{Computation}
use Rattle.jv_code.specs.declared.kinds.Computation.TheVariants as compute
use Rattle.jv_code.specs.declared.insn.Insn.TheVariants as insns
use Rattle.jv_code.specs.Insns.{Instruction}

abbrev pub load_name : ValueKind → List ℕ
load_name value.Int = codes "iload"
load_name value.Long = codes "lload"
load_name value.Reference = codes "aload"

abbrev pub store_name : WordKind → List ℕ
store_name word.Int = codes "istore"
store_name word.Reference = codes "astore"

abbrev pub return_name : ValueKind → List ℕ
return_name value.Int = codes "ireturn"
return_name value.Long = codes "lreturn"
return_name value.Reference = codes "areturn"

abbrev pub array_load_name : NumberElement → List ℕ
array_load_name kind.Int = codes "iaload"
array_load_name kind.Long = codes "laload"
array_load_name kind.ByteOrBoolean = codes "baload"
array_load_name kind.Char = codes "caload"
array_load_name kind.Short = codes "saload"

abbrev pub array_store_name : NumberElement → List ℕ
array_store_name kind.Int = codes "iastore"
array_store_name kind.Long = codes "lastore"
array_store_name kind.ByteOrBoolean = codes "bastore"
array_store_name kind.Char = codes "castore"
array_store_name kind.Short = codes "sastore"

abbrev pub stack_name : StackForm → List ℕ
stack_name stack.Pop = codes "pop"
stack_name stack.Pop2 = codes "pop2"
stack_name stack.Dup = codes "dup"
stack_name stack.DupX1 = codes "dup_x1"
stack_name stack.DupX2 = codes "dup_x2"
stack_name stack.Dup2 = codes "dup2"
stack_name stack.Dup2X1 = codes "dup2_x1"
stack_name stack.Dup2X2 = codes "dup2_x2"
stack_name stack.Swap = codes "swap"

abbrev pub int_arithmetic_name : ArithmeticOperator → List ℕ
int_arithmetic_name operator.Add = codes "iadd"
int_arithmetic_name operator.Subtract = codes "isub"
int_arithmetic_name operator.Multiply = codes "imul"
int_arithmetic_name operator.And = codes "iand"
int_arithmetic_name operator.Or = codes "ior"
int_arithmetic_name operator.Xor = codes "ixor"

abbrev pub long_arithmetic_name : ArithmeticOperator → List ℕ
long_arithmetic_name operator.Add = codes "ladd"
long_arithmetic_name operator.Subtract = codes "lsub"
long_arithmetic_name operator.Multiply = codes "lmul"
long_arithmetic_name operator.And = codes "land"
long_arithmetic_name operator.Or = codes "lor"
long_arithmetic_name operator.Xor = codes "lxor"

abbrev pub arithmetic_name : NumberKind → ArithmeticOperator → List ℕ
arithmetic_name number.Int op = int_arithmetic_name op
arithmetic_name number.Long op = long_arithmetic_name op

abbrev pub negate_name : NumberKind → List ℕ
negate_name number.Int = codes "ineg"
negate_name number.Long = codes "lneg"

abbrev pub int_shift_name : ShiftOperator → List ℕ
int_shift_name shift.Left = codes "ishl"
int_shift_name shift.Right = codes "ishr"
int_shift_name shift.UnsignedRight = codes "iushr"

abbrev pub long_shift_name : ShiftOperator → List ℕ
long_shift_name shift.Left = codes "lshl"
long_shift_name shift.Right = codes "lshr"
long_shift_name shift.UnsignedRight = codes "lushr"

abbrev pub shift_name : NumberKind → ShiftOperator → List ℕ
shift_name number.Int op = int_shift_name op
shift_name number.Long op = long_shift_name op

abbrev pub int_division_name : DivisionOperator → List ℕ
int_division_name division.Divide = codes "idiv"
int_division_name division.Remainder = codes "irem"

abbrev pub long_division_name : DivisionOperator → List ℕ
long_division_name division.Divide = codes "ldiv"
long_division_name division.Remainder = codes "lrem"

abbrev pub division_name : NumberKind → DivisionOperator → List ℕ
division_name number.Int op = int_division_name op
division_name number.Long op = long_division_name op

abbrev pub conversion_name : Conversion → List ℕ
conversion_name conversion.IntToLong = codes "i2l"
conversion_name conversion.LongToInt = codes "l2i"
conversion_name conversion.IntToByte = codes "i2b"
conversion_name conversion.IntToChar = codes "i2c"
conversion_name conversion.IntToShort = codes "i2s"

-- iconst_<i> ends with its number
abbrev pub int_constant_name : IntForm → List ℕ
int_constant_name int.Opcode = codes "iconst"
int_constant_name int.Byte = codes "bipush"
int_constant_name int.Half = codes "sipush"

-- lconst_<l> ends with its number
abbrev pub computation_name : Computation → List ℕ
computation_name (compute.IntConstant z form) = int_constant_name form
computation_name (compute.LongConstant l) = codes "lconst"
computation_name (compute.Arithmetic kind op) = arithmetic_name kind op
computation_name (compute.Negate kind) = negate_name kind
computation_name (compute.Shift kind op) = shift_name kind op
computation_name (compute.Convert to) = conversion_name to
computation_name compute.CompareLongs = codes "lcmp"

abbrev pub if_name : Condition → List ℕ
if_name condition.Equal = codes "ifeq"
if_name condition.NotEqual = codes "ifne"
if_name condition.Less = codes "iflt"
if_name condition.GreaterOrEqual = codes "ifge"
if_name condition.Greater = codes "ifgt"
if_name condition.LessOrEqual = codes "ifle"

abbrev pub if_ints_name : Condition → List ℕ
if_ints_name condition.Equal = codes "if_icmpeq"
if_ints_name condition.NotEqual = codes "if_icmpne"
if_ints_name condition.Less = codes "if_icmplt"
if_ints_name condition.GreaterOrEqual = codes "if_icmpge"
if_ints_name condition.Greater = codes "if_icmpgt"
if_ints_name condition.LessOrEqual = codes "if_icmple"

abbrev pub if_references_name : Equality → List ℕ
if_references_name equality.Same = codes "if_acmpeq"
if_references_name equality.Different = codes "if_acmpne"

abbrev pub if_null_name : Equality → List ℕ
if_null_name equality.Same = codes "ifnull"
if_null_name equality.Different = codes "ifnonnull"

abbrev pub branch_name : Test → List ℕ
branch_name (test.IfInt to) = if_name to
branch_name (test.IfInts to) = if_ints_name to
branch_name (test.IfReferences to) = if_references_name to
branch_name (test.IfNull to) = if_null_name to

abbrev pub field_name : FieldAccess → List ℕ
field_name access.GetStatic = codes "getstatic"
field_name access.PutStatic = codes "putstatic"
field_name access.GetField = codes "getfield"
field_name access.PutField = codes "putfield"

abbrev pub invoke_name : Invocation → List ℕ
invoke_name invocation.Virtual = codes "invokevirtual"
invoke_name invocation.Special = codes "invokespecial"
invoke_name invocation.Static = codes "invokestatic"

abbrev pub load_constant_name : IndexForm → List ℕ
load_constant_name index.Byte = codes "ldc"
load_constant_name index.Half = codes "ldc_w"

abbrev pub goto_name : JumpForm → List ℕ
goto_name jump.Half = codes "goto"
goto_name jump.Quad = codes "goto_w"

-- the type of the components that newarray names
abbrev pub element_name : ElementType → List ℕ
element_name element.Boolean = codes "boolean"
element_name element.Char = codes "char"
element_name element.Byte = codes "byte"
element_name element.Short = codes "short"
element_name element.Int = codes "int"
element_name element.Long = codes "long"

abbrev pub mnemonic : Instruction → List ℕ
mnemonic insns.Nop = codes "nop"
mnemonic insns.NullConstant = codes "aconst_null"
mnemonic (insns.Compute computation) = computation_name computation
mnemonic (insns.PoolConstant i form) = load_constant_name form
mnemonic (insns.PoolLongConstant i) = codes "ldc2_w"
mnemonic (insns.Load kind n form) = load_name kind
mnemonic (insns.Store kind n form) = store_name kind
mnemonic (insns.StoreLong n form) = codes "lstore"
mnemonic (insns.ArrayLoad kind) = array_load_name kind
mnemonic insns.ReferenceArrayLoad = codes "aaload"
mnemonic (insns.ArrayStore kind) = array_store_name kind
mnemonic insns.ReferenceArrayStore = codes "aastore"
mnemonic (insns.Stack form) = stack_name form
mnemonic (insns.Division kind op) = division_name kind op
mnemonic (insns.Increment n z form) = codes "iinc"
mnemonic (insns.Branch test z) = branch_name test
mnemonic (insns.Goto z form) = goto_name form
mnemonic (insns.TableSwitch padding default low high distances) = codes "tableswitch"
mnemonic (insns.LookupSwitch padding default pairs) = codes "lookupswitch"
mnemonic (insns.ReturnValue kind) = return_name kind
mnemonic insns.Return = codes "return"
mnemonic (insns.Field access i) = field_name access
mnemonic (insns.Invoke how i) = invoke_name how
mnemonic (insns.InvokeInterface i count) = codes "invokeinterface"
mnemonic (insns.New i) = codes "new"
mnemonic (insns.NewArray type) = codes "newarray"
mnemonic (insns.NewReferenceArray i) = codes "anewarray"
mnemonic (insns.NewMultiArray i dimensions) = codes "multianewarray"
mnemonic insns.ArrayLength = codes "arraylength"
mnemonic insns.Throw = codes "athrow"
mnemonic (insns.CheckCast i) = codes "checkcast"
mnemonic (insns.InstanceOf i) = codes "instanceof"
