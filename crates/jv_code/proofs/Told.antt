-- The shape of an instruction is told by its opcode.
use Rattle.std.proofs.Common.{◌≡◌, ℕ, zero, suc, ◌+◌, Some, refl, arith}
use Rattle.std.specs.Prelude.{ℤ, pos, negsuc, IsTrue, nat_lt}
use Rattle.std.proofs.lemmas.Bool.{ltb-true}
use Rattle.jv_code.specs.declared.kinds.ValueKind.{ValueKind}
use Rattle.jv_code.specs.declared.kinds.ValueKind.TheVariants as value
use Rattle.jv_code.specs.declared.kinds.WordKind.{WordKind}
use Rattle.jv_code.specs.declared.kinds.WordKind.TheVariants as word
use Rattle.jv_code.specs.declared.kinds.NumberKind.{NumberKind}
use Rattle.jv_code.specs.declared.kinds.NumberKind.TheVariants as number
use Rattle.jv_code.specs.declared.kinds.IntForm.TheVariants as int
use Rattle.jv_code.specs.declared.kinds.LongValue.{LongValue}
use Rattle.jv_code.specs.declared.kinds.LongValue.TheVariants as long
use Rattle.jv_code.specs.declared.kinds.NumberElement.{NumberElement}
use Rattle.jv_code.specs.declared.kinds.NumberElement.TheVariants as kind
use Rattle.jv_code.specs.declared.kinds.Computation.TheVariants as compute
use Rattle.jv_code.specs.declared.kinds.Test.{Test}
use Rattle.jv_code.specs.declared.kinds.Test.TheVariants as test
use Rattle.jv_code.specs.declared.kinds.ElementType.{ElementType}
use Rattle.jv_code.specs.declared.kinds.ElementType.TheVariants as element
use Rattle.jv_code.specs.declared.kinds.StackForm.{StackForm}
use Rattle.jv_code.specs.declared.kinds.StackForm.TheVariants as stack
use Rattle.jv_code.specs.declared.kinds.ArithmeticOperator.{ArithmeticOperator}
use Rattle.jv_code.specs.declared.kinds.ArithmeticOperator.TheVariants as operator
use Rattle.jv_code.specs.declared.kinds.DivisionOperator.{DivisionOperator}
use Rattle.jv_code.specs.declared.kinds.DivisionOperator.TheVariants as division
use Rattle.jv_code.specs.declared.kinds.ShiftOperator.{ShiftOperator}
use Rattle.jv_code.specs.declared.kinds.ShiftOperator.TheVariants as shift
use Rattle.jv_code.specs.declared.kinds.Conversion.{Conversion}
use Rattle.jv_code.specs.declared.kinds.Conversion.TheVariants as conversion
use Rattle.jv_code.specs.declared.kinds.Condition.TheVariants as condition
use Rattle.jv_code.specs.declared.kinds.Equality.TheVariants as equality
use Rattle.jv_code.specs.declared.kinds.FieldAccess.TheVariants as access
use Rattle.jv_code.specs.declared.kinds.Invocation.TheVariants as invocation
use Rattle.jv_code.specs.declared.shapes.IndexUse.{IndexUse}
use Rattle.jv_code.specs.declared.shapes.IndexUse.TheVariants as use_of
use Rattle.jv_code.specs.declared.shapes.LocalUse.{LocalUse}
use Rattle.jv_code.specs.declared.shapes.LocalUse.TheVariants as local_use
use Rattle.jv_code.specs.declared.shapes.WholeInsn.TheVariants as whole
use Rattle.jv_code.specs.declared.shapes.OpcodeShape.{OpcodeShape}
use Rattle.jv_code.specs.declared.shapes.OpcodeShape.TheVariants as shape
use Rattle.jv_code.specs.Opcodes.{int_opcode, long_opcode, load_0_opcode, store_0_opcode, array_load_opcode, array_store_opcode, stack_opcode, number_offset, arithmetic_opcode, division_opcode, shift_opcode, conversion_opcode, branch_opcode, return_opcode, element_code}
use Rattle.jv_code.specs.Insns.{int_opcode_fits}
use Rattle.jv_code.specs.Inside.Shapes.{shape_at}
use Rattle.jv_code.specs.Inside.Reading.{element_at}
use Rattle.jv_code.proofs.Tables.{index_opcode, local_opcode}

abbrev Tells : ℕ → OpcodeShape → Type 0
Tells opcode s = shape_at opcode ≡ Some s

pub long_told : (l : LongValue) → Tells (long_opcode l) (shape.Whole (whole.Compute (compute.LongConstant l)))
long_told long.Zero = refl
long_told long.One = refl

pub array_load_told : (k : NumberElement) → Tells (array_load_opcode k) (shape.Whole (whole.ArrayLoad k))
array_load_told kind.Int = refl
array_load_told kind.Long = refl
array_load_told kind.ByteOrBoolean = refl
array_load_told kind.Char = refl
array_load_told kind.Short = refl

pub array_store_told : (k : NumberElement) → Tells (array_store_opcode k) (shape.Whole (whole.ArrayStore k))
array_store_told kind.Int = refl
array_store_told kind.Long = refl
array_store_told kind.ByteOrBoolean = refl
array_store_told kind.Char = refl
array_store_told kind.Short = refl

pub stack_told : (f : StackForm) → Tells (stack_opcode f) (shape.Whole (whole.Stack f))
stack_told stack.Pop = refl
stack_told stack.Pop2 = refl
stack_told stack.Dup = refl
stack_told stack.DupX1 = refl
stack_told stack.DupX2 = refl
stack_told stack.Dup2 = refl
stack_told stack.Dup2X1 = refl
stack_told stack.Dup2X2 = refl
stack_told stack.Swap = refl

pub arithmetic_told : (k : NumberKind) (op : ArithmeticOperator) → Tells (arithmetic_opcode op + number_offset k) (shape.Whole (whole.Compute (compute.Arithmetic k op)))
arithmetic_told number.Int operator.Add = refl
arithmetic_told number.Int operator.Subtract = refl
arithmetic_told number.Int operator.Multiply = refl
arithmetic_told number.Int operator.And = refl
arithmetic_told number.Int operator.Or = refl
arithmetic_told number.Int operator.Xor = refl
arithmetic_told number.Long operator.Add = refl
arithmetic_told number.Long operator.Subtract = refl
arithmetic_told number.Long operator.Multiply = refl
arithmetic_told number.Long operator.And = refl
arithmetic_told number.Long operator.Or = refl
arithmetic_told number.Long operator.Xor = refl

pub division_told : (k : NumberKind) (op : DivisionOperator) → Tells (division_opcode op + number_offset k) (shape.Whole (whole.Division k op))
division_told number.Int division.Divide = refl
division_told number.Int division.Remainder = refl
division_told number.Long division.Divide = refl
division_told number.Long division.Remainder = refl

pub shift_told : (k : NumberKind) (op : ShiftOperator) → Tells (shift_opcode op + number_offset k) (shape.Whole (whole.Compute (compute.Shift k op)))
shift_told number.Int shift.Left = refl
shift_told number.Int shift.Right = refl
shift_told number.Int shift.UnsignedRight = refl
shift_told number.Long shift.Left = refl
shift_told number.Long shift.Right = refl
shift_told number.Long shift.UnsignedRight = refl

pub negate_told : (k : NumberKind) → Tells (116 + number_offset k) (shape.Whole (whole.Compute (compute.Negate k)))
negate_told number.Int = refl
negate_told number.Long = refl

pub convert_told : (c : Conversion) → Tells (conversion_opcode c) (shape.Whole (whole.Compute (compute.Convert c)))
convert_told conversion.IntToLong = refl
convert_told conversion.LongToInt = refl
convert_told conversion.IntToByte = refl
convert_told conversion.IntToChar = refl
convert_told conversion.IntToShort = refl

pub return_told : (k : ValueKind) → Tells (return_opcode k) (shape.Whole (whole.ReturnValue k))
return_told value.Int = refl
return_told value.Long = refl
return_told value.Reference = refl

pub load_told : (k : ValueKind) (n : ℕ) → IsTrue (nat_lt n 4) → Tells (load_0_opcode k + n) (shape.Whole (whole.Local (local_use.Load k) n))
load_told value.Int zero h = refl
load_told value.Int (suc zero) h = refl
load_told value.Int (suc (suc zero)) h = refl
load_told value.Int (suc (suc (suc zero))) h = refl
load_told value.Int (suc (suc (suc (suc n)))) h = absurd (omega (arith, ltb-true (suc (suc (suc (suc n)))) 4 h))
load_told value.Long zero h = refl
load_told value.Long (suc zero) h = refl
load_told value.Long (suc (suc zero)) h = refl
load_told value.Long (suc (suc (suc zero))) h = refl
load_told value.Long (suc (suc (suc (suc n)))) h = absurd (omega (arith, ltb-true (suc (suc (suc (suc n)))) 4 h))
load_told value.Reference zero h = refl
load_told value.Reference (suc zero) h = refl
load_told value.Reference (suc (suc zero)) h = refl
load_told value.Reference (suc (suc (suc zero))) h = refl
load_told value.Reference (suc (suc (suc (suc n)))) h = absurd (omega (arith, ltb-true (suc (suc (suc (suc n)))) 4 h))

pub store_told : (k : WordKind) (n : ℕ) → IsTrue (nat_lt n 4) → Tells (store_0_opcode k + n) (shape.Whole (whole.Local (local_use.Store k) n))
store_told word.Int zero h = refl
store_told word.Int (suc zero) h = refl
store_told word.Int (suc (suc zero)) h = refl
store_told word.Int (suc (suc (suc zero))) h = refl
store_told word.Int (suc (suc (suc (suc n)))) h = absurd (omega (arith, ltb-true (suc (suc (suc (suc n)))) 4 h))
store_told word.Reference zero h = refl
store_told word.Reference (suc zero) h = refl
store_told word.Reference (suc (suc zero)) h = refl
store_told word.Reference (suc (suc (suc zero))) h = refl
store_told word.Reference (suc (suc (suc (suc n)))) h = absurd (omega (arith, ltb-true (suc (suc (suc (suc n)))) 4 h))

pub store_long_told : (n : ℕ) → IsTrue (nat_lt n 4) → Tells (63 + n) (shape.Whole (whole.Local local_use.StoreLong n))
store_long_told zero h = refl
store_long_told (suc zero) h = refl
store_long_told (suc (suc zero)) h = refl
store_long_told (suc (suc (suc zero))) h = refl
store_long_told (suc (suc (suc (suc n)))) h = absurd (omega (arith, ltb-true (suc (suc (suc (suc n)))) 4 h))

pub int_told : (z : ℤ) → IsTrue (int_opcode_fits z) → Tells (int_opcode z) (shape.Whole (whole.Compute (compute.IntConstant z int.Opcode)))
int_told (pos zero) h = refl
int_told (pos (suc zero)) h = refl
int_told (pos (suc (suc zero))) h = refl
int_told (pos (suc (suc (suc zero)))) h = refl
int_told (pos (suc (suc (suc (suc zero))))) h = refl
int_told (pos (suc (suc (suc (suc (suc zero)))))) h = refl
int_told (pos (suc (suc (suc (suc (suc (suc n))))))) h = absurd (omega (arith, ltb-true (suc (suc (suc (suc (suc (suc n)))))) 6 h))
int_told (negsuc zero) h = refl
int_told (negsuc (suc n)) h = absurd (omega (arith, ltb-true (suc n) 1 h))

pub index_told : (u : IndexUse) → Tells (index_opcode u) (shape.Index u)
index_told use_of.PoolConstant = refl
index_told use_of.PoolLongConstant = refl
index_told use_of.New = refl
index_told use_of.NewReferenceArray = refl
index_told use_of.CheckCast = refl
index_told use_of.InstanceOf = refl
index_told (use_of.Field access.GetStatic) = refl
index_told (use_of.Field access.PutStatic) = refl
index_told (use_of.Field access.GetField) = refl
index_told (use_of.Field access.PutField) = refl
index_told (use_of.Invoke invocation.Virtual) = refl
index_told (use_of.Invoke invocation.Special) = refl
index_told (use_of.Invoke invocation.Static) = refl

pub local_told : (u : LocalUse) → Tells (local_opcode u) (shape.Local u)
local_told (local_use.Load value.Int) = refl
local_told (local_use.Load value.Long) = refl
local_told (local_use.Load value.Reference) = refl
local_told (local_use.Store word.Int) = refl
local_told (local_use.Store word.Reference) = refl
local_told local_use.StoreLong = refl

pub branch_told : (t : Test) → Tells (branch_opcode t) (shape.Branch t)
branch_told (test.IfInt condition.Equal) = refl
branch_told (test.IfInt condition.NotEqual) = refl
branch_told (test.IfInt condition.Less) = refl
branch_told (test.IfInt condition.GreaterOrEqual) = refl
branch_told (test.IfInt condition.Greater) = refl
branch_told (test.IfInt condition.LessOrEqual) = refl
branch_told (test.IfInts condition.Equal) = refl
branch_told (test.IfInts condition.NotEqual) = refl
branch_told (test.IfInts condition.Less) = refl
branch_told (test.IfInts condition.GreaterOrEqual) = refl
branch_told (test.IfInts condition.Greater) = refl
branch_told (test.IfInts condition.LessOrEqual) = refl
branch_told (test.IfReferences equality.Same) = refl
branch_told (test.IfReferences equality.Different) = refl
branch_told (test.IfNull equality.Same) = refl
branch_told (test.IfNull equality.Different) = refl

pub element_told : (type : ElementType) → element_at (element_code type) ≡ Some type
element_told element.Boolean = refl
element_told element.Char = refl
element_told element.Byte = refl
element_told element.Short = refl
element_told element.Int = refl
element_told element.Long = refl
