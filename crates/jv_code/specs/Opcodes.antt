-- The opcodes of the profile (JVMS 6.5, 7), by what the instructions differ in.
use Rattle.std.specs.Prelude.{ℕ, ◌+◌, ℤ, pos, negsuc}
use Rattle.jv_code.specs.declared.kinds.ValueKind.{ValueKind}
use Rattle.jv_code.specs.declared.kinds.ValueKind.TheVariants as value
use Rattle.jv_code.specs.declared.kinds.WordKind.{WordKind}
use Rattle.jv_code.specs.declared.kinds.WordKind.TheVariants as word
use Rattle.jv_code.specs.declared.kinds.NumberKind.{NumberKind}
use Rattle.jv_code.specs.declared.kinds.NumberKind.TheVariants as number
use Rattle.jv_code.specs.declared.kinds.LongValue.{LongValue}
use Rattle.jv_code.specs.declared.kinds.LongValue.TheVariants as long
use Rattle.jv_code.specs.declared.kinds.NumberElement.{NumberElement}
use Rattle.jv_code.specs.declared.kinds.NumberElement.TheVariants as kind
use Rattle.jv_code.specs.declared.kinds.ElementType.{ElementType}
use Rattle.jv_code.specs.declared.kinds.ElementType.TheVariants as element
use Rattle.jv_code.specs.declared.kinds.StackForm.{StackForm}
use Rattle.jv_code.specs.declared.kinds.StackForm.TheVariants as stack
use Rattle.jv_code.specs.declared.kinds.ArithmeticOperator.{ArithmeticOperator}
use Rattle.jv_code.specs.declared.kinds.ArithmeticOperator.TheVariants as operator
use Rattle.jv_code.specs.declared.kinds.DivisionOperator.{DivisionOperator}
use Rattle.jv_code.specs.declared.kinds.DivisionOperator.TheVariants as division
use Rattle.jv_code.specs.declared.kinds.ShiftOperator.{ShiftOperator}
use Rattle.jv_code.specs.declared.kinds.ShiftOperator.TheVariants as shift
use Rattle.jv_code.specs.declared.kinds.Conversion.{Conversion}
use Rattle.jv_code.specs.declared.kinds.Conversion.TheVariants as conversion
use Rattle.jv_code.specs.declared.kinds.Condition.{Condition}
use Rattle.jv_code.specs.declared.kinds.Condition.TheVariants as condition
use Rattle.jv_code.specs.declared.kinds.Equality.{Equality}
use Rattle.jv_code.specs.declared.kinds.Equality.TheVariants as equality
use Rattle.jv_code.specs.declared.kinds.Test.{Test}
use Rattle.jv_code.specs.declared.kinds.Test.TheVariants as test
use Rattle.jv_code.specs.declared.kinds.FieldAccess.{FieldAccess}
use Rattle.jv_code.specs.declared.kinds.FieldAccess.TheVariants as access
use Rattle.jv_code.specs.declared.kinds.Invocation.{Invocation}
use Rattle.jv_code.specs.declared.kinds.Invocation.TheVariants as invocation

-- iconst_m1 2, iconst_0 3 to iconst_5 8
abbrev pub int_opcode : ℤ → ℕ
int_opcode (pos n) = 3 + n
int_opcode (negsuc n) = 2

-- lconst_0, lconst_1
abbrev pub long_opcode : LongValue → ℕ
long_opcode long.Zero = 9
long_opcode long.One = 10

-- iload, lload, aload
abbrev pub load_opcode : ValueKind → ℕ
load_opcode value.Int = 21
load_opcode value.Long = 22
load_opcode value.Reference = 25

-- iload_0, lload_0, aload_0; the next three hold locals 1 to 3
abbrev pub load_0_opcode : ValueKind → ℕ
load_0_opcode value.Int = 26
load_0_opcode value.Long = 30
load_0_opcode value.Reference = 42

-- istore, astore
abbrev pub store_opcode : WordKind → ℕ
store_opcode word.Int = 54
store_opcode word.Reference = 58

-- istore_0, astore_0; the next three hold locals 1 to 3
abbrev pub store_0_opcode : WordKind → ℕ
store_0_opcode word.Int = 59
store_0_opcode word.Reference = 75

-- iaload, laload, baload, caload, saload; aaload is 50
abbrev pub array_load_opcode : NumberElement → ℕ
array_load_opcode kind.Int = 46
array_load_opcode kind.Long = 47
array_load_opcode kind.ByteOrBoolean = 51
array_load_opcode kind.Char = 52
array_load_opcode kind.Short = 53

-- iastore, lastore, bastore, castore, sastore; aastore is 83
abbrev pub array_store_opcode : NumberElement → ℕ
array_store_opcode kind.Int = 79
array_store_opcode kind.Long = 80
array_store_opcode kind.ByteOrBoolean = 84
array_store_opcode kind.Char = 85
array_store_opcode kind.Short = 86

-- pop, pop2, dup, dup_x1, dup_x2, dup2, dup2_x1, dup2_x2, swap
abbrev pub stack_opcode : StackForm → ℕ
stack_opcode stack.Pop = 87
stack_opcode stack.Pop2 = 88
stack_opcode stack.Dup = 89
stack_opcode stack.DupX1 = 90
stack_opcode stack.DupX2 = 91
stack_opcode stack.Dup2 = 92
stack_opcode stack.Dup2X1 = 93
stack_opcode stack.Dup2X2 = 94
stack_opcode stack.Swap = 95

-- the long form of an operation follows its int form
abbrev pub number_offset : NumberKind → ℕ
number_offset number.Int = 0
number_offset number.Long = 1

-- iadd, isub, imul, iand, ior, ixor
abbrev pub arithmetic_opcode : ArithmeticOperator → ℕ
arithmetic_opcode operator.Add = 96
arithmetic_opcode operator.Subtract = 100
arithmetic_opcode operator.Multiply = 104
arithmetic_opcode operator.And = 126
arithmetic_opcode operator.Or = 128
arithmetic_opcode operator.Xor = 130

-- idiv, irem
abbrev pub division_opcode : DivisionOperator → ℕ
division_opcode division.Divide = 108
division_opcode division.Remainder = 112

-- ishl, ishr, iushr
abbrev pub shift_opcode : ShiftOperator → ℕ
shift_opcode shift.Left = 120
shift_opcode shift.Right = 122
shift_opcode shift.UnsignedRight = 124

-- i2l, l2i, i2b, i2c, i2s
abbrev pub conversion_opcode : Conversion → ℕ
conversion_opcode conversion.IntToLong = 133
conversion_opcode conversion.LongToInt = 136
conversion_opcode conversion.IntToByte = 145
conversion_opcode conversion.IntToChar = 146
conversion_opcode conversion.IntToShort = 147

-- ifeq, ifne, iflt, ifge, ifgt, ifle
abbrev pub if_opcode : Condition → ℕ
if_opcode condition.Equal = 153
if_opcode condition.NotEqual = 154
if_opcode condition.Less = 155
if_opcode condition.GreaterOrEqual = 156
if_opcode condition.Greater = 157
if_opcode condition.LessOrEqual = 158

-- if_icmpeq, if_icmpne, if_icmplt, if_icmpge, if_icmpgt, if_icmple
abbrev pub if_ints_opcode : Condition → ℕ
if_ints_opcode condition.Equal = 159
if_ints_opcode condition.NotEqual = 160
if_ints_opcode condition.Less = 161
if_ints_opcode condition.GreaterOrEqual = 162
if_ints_opcode condition.Greater = 163
if_ints_opcode condition.LessOrEqual = 164

-- if_acmpeq, if_acmpne
abbrev pub if_references_opcode : Equality → ℕ
if_references_opcode equality.Same = 165
if_references_opcode equality.Different = 166

-- ifnull, ifnonnull
abbrev pub if_null_opcode : Equality → ℕ
if_null_opcode equality.Same = 198
if_null_opcode equality.Different = 199

-- the branches
abbrev pub branch_opcode : Test → ℕ
branch_opcode (test.IfInt to) = if_opcode to
branch_opcode (test.IfInts to) = if_ints_opcode to
branch_opcode (test.IfReferences to) = if_references_opcode to
branch_opcode (test.IfNull to) = if_null_opcode to

-- ireturn, lreturn, areturn
abbrev pub return_opcode : ValueKind → ℕ
return_opcode value.Int = 172
return_opcode value.Long = 173
return_opcode value.Reference = 176

-- getstatic, putstatic, getfield, putfield
abbrev pub field_opcode : FieldAccess → ℕ
field_opcode access.GetStatic = 178
field_opcode access.PutStatic = 179
field_opcode access.GetField = 180
field_opcode access.PutField = 181

-- invokevirtual, invokespecial, invokestatic
abbrev pub invoke_opcode : Invocation → ℕ
invoke_opcode invocation.Virtual = 182
invoke_opcode invocation.Special = 183
invoke_opcode invocation.Static = 184

-- newarray's codes: T_BOOLEAN, T_CHAR, T_BYTE, T_SHORT, T_INT, T_LONG
abbrev pub element_code : ElementType → ℕ
element_code element.Boolean = 4
element_code element.Char = 5
element_code element.Byte = 8
element_code element.Short = 9
element_code element.Int = 10
element_code element.Long = 11
