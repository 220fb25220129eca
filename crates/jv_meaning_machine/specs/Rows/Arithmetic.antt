-- Worked rows (JVMS 6.5, iadd to lcmp): each instruction that computes, with the operands at which it can go wrong, computed.
use Rattle.std.specs.Prelude.{◌≡◌, List, [], ◌∷◌, ◌++◌, Err, codes}
use Rattle.jv_code.specs.declared.insn.Insn.TheVariants as insns
use Rattle.jv_code.specs.declared.kinds.ArithmeticOperator.{ArithmeticOperator}
use Rattle.jv_code.specs.declared.kinds.ArithmeticOperator.TheVariants as operators
use Rattle.jv_code.specs.declared.kinds.Computation.TheVariants as compute
use Rattle.jv_code.specs.declared.kinds.Conversion.{Conversion}
use Rattle.jv_code.specs.declared.kinds.Conversion.TheVariants as conversions
use Rattle.jv_code.specs.declared.kinds.DivisionOperator.TheVariants as divisions
use Rattle.jv_code.specs.declared.kinds.LongValue.TheVariants as longs
use Rattle.jv_code.specs.declared.kinds.NumberKind.TheVariants as numbers
use Rattle.jv_code.specs.declared.kinds.ShiftOperator.{ShiftOperator}
use Rattle.jv_code.specs.declared.kinds.ShiftOperator.TheVariants as shifts
use Rattle.jv_code.specs.Insns.{Instruction}
use Rattle.jv_meaning_machine.specs.Faults.{OrFault}
use Rattle.jv_meaning_machine.specs.Faults.Fault.{StackFault, TagFault}
use Rattle.jv_meaning_machine.specs.Values.{Value}
use Rattle.jv_meaning_machine.specs.Effects.{Effect}
use Rattle.jv_meaning_machine.specs.Rows.InstructionSamples.{effect, follows, raised, on_stack, int, int_minus, long, long_minus}

-- ---- the operands, the last of them on top of the stack, and the result; what stands below them stays

abbrev pub below : List Value
below = long 7 ∷ []

abbrev pub computes : Instruction → List Value → OrFault Effect
computes insn operands = effect (on_stack (below ++ operands)) insn

abbrev pub gives : Value → OrFault Effect
gives value = follows 1 [] (below ++ value ∷ [])

abbrev pub by_zero : OrFault Effect
by_zero = raised (codes "ArithmeticException")

-- ---- instructions

abbrev pub ints : ArithmeticOperator → Value → Value → OrFault Effect
ints operator a b = computes (insns.Compute (compute.Arithmetic numbers.Int operator)) (a ∷ b ∷ [])

abbrev pub two_longs : ArithmeticOperator → Value → Value → OrFault Effect
two_longs operator a b = computes (insns.Compute (compute.Arithmetic numbers.Long operator)) (a ∷ b ∷ [])

abbrev pub idiv : Value → Value → OrFault Effect
idiv a b = computes (insns.Division numbers.Int divisions.Divide) (a ∷ b ∷ [])

abbrev pub irem : Value → Value → OrFault Effect
irem a b = computes (insns.Division numbers.Int divisions.Remainder) (a ∷ b ∷ [])

abbrev pub ldiv : Value → Value → OrFault Effect
ldiv a b = computes (insns.Division numbers.Long divisions.Divide) (a ∷ b ∷ [])

abbrev pub lrem : Value → Value → OrFault Effect
lrem a b = computes (insns.Division numbers.Long divisions.Remainder) (a ∷ b ∷ [])

abbrev pub ineg : Value → OrFault Effect
ineg a = computes (insns.Compute (compute.Negate numbers.Int)) (a ∷ [])

abbrev pub lneg : Value → OrFault Effect
lneg a = computes (insns.Compute (compute.Negate numbers.Long)) (a ∷ [])

-- the second operand is the number of places, an int also where a long is shifted
abbrev pub shift_int : ShiftOperator → Value → Value → OrFault Effect
shift_int operator a by = computes (insns.Compute (compute.Shift numbers.Int operator)) (a ∷ by ∷ [])

abbrev pub shift_long : ShiftOperator → Value → Value → OrFault Effect
shift_long operator a by = computes (insns.Compute (compute.Shift numbers.Long operator)) (a ∷ by ∷ [])

abbrev pub convert : Conversion → Value → OrFault Effect
convert conversion a = computes (insns.Compute (compute.Convert conversion)) (a ∷ [])

abbrev pub lcmp : Value → Value → OrFault Effect
lcmp a b = computes (insns.Compute compute.CompareLongs) (a ∷ b ∷ [])

-- ---- the greatest and the least numbers

abbrev pub max_int : Value
max_int = int 2147483647

abbrev pub min_int : Value
min_int = int_minus 2147483648

abbrev pub max_long : Value
max_long = long 9223372036854775807

abbrev pub min_long : Value
min_long = long_minus 9223372036854775808

pub record IntRows : Type 0 where
  pub adds : ints operators.Add (int 2) (int_minus 5) ≡ gives (int_minus 3)
  pub add_wraps : ints operators.Add max_int (int 1) ≡ gives min_int
  pub add_wraps_down : ints operators.Add min_int (int_minus 1) ≡ gives max_int
  pub subtracts : ints operators.Subtract (int 2) (int 5) ≡ gives (int_minus 3)
  pub subtract_wraps : ints operators.Subtract min_int (int 1) ≡ gives max_int
  pub subtract_least : ints operators.Subtract (int 0) min_int ≡ gives min_int
  pub multiplies : ints operators.Multiply (int_minus 7) (int 6) ≡ gives (int_minus 42)
  pub multiply_wraps : ints operators.Multiply max_int max_int ≡ gives (int 1)
  pub multiply_to_zero : ints operators.Multiply (int 65536) (int 65536) ≡ gives (int 0)
  pub multiply_least : ints operators.Multiply min_int (int_minus 1) ≡ gives min_int
  -- toward zero, and the remainder has the sign of the first operand
  pub divides : idiv (int 7) (int 2) ≡ gives (int 3)
  pub divides_minus : idiv (int_minus 7) (int 2) ≡ gives (int_minus 3)
  pub divides_by_minus : idiv (int 7) (int_minus 2) ≡ gives (int_minus 3)
  pub divides_least : idiv min_int (int_minus 1) ≡ gives min_int
  pub divides_by_zero : idiv min_int (int 0) ≡ by_zero
  pub remainder : irem (int 7) (int 3) ≡ gives (int 1)
  pub remainder_minus : irem (int_minus 7) (int 3) ≡ gives (int_minus 1)
  pub remainder_by_minus : irem (int 7) (int_minus 3) ≡ gives (int 1)
  pub remainder_least : irem min_int (int_minus 1) ≡ gives (int 0)
  pub remainder_by_zero : irem (int 0) (int 0) ≡ by_zero
  pub negates : ineg (int 5) ≡ gives (int_minus 5)
  pub negates_least : ineg min_int ≡ gives min_int
  pub ands : ints operators.And (int 12) (int 10) ≡ gives (int 8)
  pub ands_minus : ints operators.And (int_minus 1) min_int ≡ gives min_int
  pub ors : ints operators.Or (int 12) (int 10) ≡ gives (int 14)
  pub ors_minus : ints operators.Or min_int max_int ≡ gives (int_minus 1)
  pub xors : ints operators.Xor (int 12) (int 10) ≡ gives (int 6)
  pub xors_minus : ints operators.Xor (int_minus 1) max_int ≡ gives min_int

pub record LongRows : Type 0 where
  pub adds : two_longs operators.Add (long 2) (long_minus 5) ≡ gives (long_minus 3)
  pub add_wraps : two_longs operators.Add max_long (long 1) ≡ gives min_long
  pub add_beyond_ints : two_longs operators.Add (long 2147483647) (long 1) ≡ gives (long 2147483648)
  pub subtracts : two_longs operators.Subtract (long 2) (long 5) ≡ gives (long_minus 3)
  pub subtract_wraps : two_longs operators.Subtract min_long (long 1) ≡ gives max_long
  pub multiplies : two_longs operators.Multiply (long 4294967296) (long_minus 2) ≡ gives (long_minus 8589934592)
  pub multiply_wraps : two_longs operators.Multiply max_long max_long ≡ gives (long 1)
  pub multiply_least : two_longs operators.Multiply min_long (long_minus 1) ≡ gives min_long
  pub divides_minus : ldiv (long_minus 7) (long 2) ≡ gives (long_minus 3)
  pub divides_least : ldiv min_long (long_minus 1) ≡ gives min_long
  pub divides_by_zero : ldiv (long 1) (long 0) ≡ by_zero
  pub remainder_minus : lrem (long_minus 7) (long 3) ≡ gives (long_minus 1)
  pub remainder_least : lrem min_long (long_minus 1) ≡ gives (long 0)
  pub remainder_by_zero : lrem min_long (long 0) ≡ by_zero
  pub negates : lneg (long 5) ≡ gives (long_minus 5)
  pub negates_least : lneg min_long ≡ gives min_long
  pub ands : two_longs operators.And (long_minus 1) min_long ≡ gives min_long
  pub ors : two_longs operators.Or min_long max_long ≡ gives (long_minus 1)
  pub xors : two_longs operators.Xor (long_minus 1) max_long ≡ gives min_long
  pub compares_less : lcmp min_long max_long ≡ gives (int_minus 1)
  pub compares_equal : lcmp (long 4294967296) (long 4294967296) ≡ gives (int 0)
  pub compares_greater : lcmp (long 4294967296) (long 0) ≡ gives (int 1)

pub record ShiftRows : Type 0 where
  -- the low five bits of the places count for an int
  pub left : shift_int shifts.Left (int 1) (int 31) ≡ gives min_int
  pub left_loses : shift_int shifts.Left (int 3) (int 31) ≡ gives min_int
  pub left_by_width : shift_int shifts.Left (int 5) (int 32) ≡ gives (int 5)
  pub left_by_minus : shift_int shifts.Left (int 1) (int_minus 1) ≡ gives min_int
  pub right : shift_int shifts.Right (int_minus 8) (int 1) ≡ gives (int_minus 4)
  pub right_down : shift_int shifts.Right (int_minus 7) (int 1) ≡ gives (int_minus 4)
  pub right_to_sign : shift_int shifts.Right min_int (int 31) ≡ gives (int_minus 1)
  pub right_beyond : shift_int shifts.Right (int_minus 8) (int 33) ≡ gives (int_minus 4)
  pub unsigned : shift_int shifts.UnsignedRight (int_minus 1) (int 28) ≡ gives (int 15)
  pub unsigned_by_width : shift_int shifts.UnsignedRight (int_minus 1) (int 32) ≡ gives (int_minus 1)
  pub unsigned_by_minus : shift_int shifts.UnsignedRight min_int (int_minus 1) ≡ gives (int 1)
  -- the low six for a long
  pub left_long : shift_long shifts.Left (long 1) (int 63) ≡ gives min_long
  pub left_long_by_width : shift_long shifts.Left (long 5) (int 64) ≡ gives (long 5)
  pub left_long_by_32 : shift_long shifts.Left (long 1) (int 32) ≡ gives (long 4294967296)
  pub left_long_by_minus : shift_long shifts.Left (long 1) (int_minus 1) ≡ gives min_long
  pub right_long : shift_long shifts.Right min_long (int 63) ≡ gives (long_minus 1)
  pub right_long_beyond : shift_long shifts.Right (long_minus 7) (int 65) ≡ gives (long_minus 4)
  pub unsigned_long : shift_long shifts.UnsignedRight (long_minus 1) (int 60) ≡ gives (long 15)
  pub unsigned_long_by_width : shift_long shifts.UnsignedRight (long_minus 1) (int 64) ≡ gives (long_minus 1)

pub record ConversionRows : Type 0 where
  pub to_long : convert conversions.IntToLong min_int ≡ gives (long_minus 2147483648)
  pub to_int : convert conversions.LongToInt (long 4294967301) ≡ gives (int 5)
  pub to_int_minus : convert conversions.LongToInt (long 2147483648) ≡ gives min_int
  pub to_int_below_ints : convert conversions.LongToInt (long_minus 4294967301) ≡ gives (int_minus 5)
  pub to_int_of_least : convert conversions.LongToInt min_long ≡ gives (int 0)
  pub to_byte : convert conversions.IntToByte (int 127) ≡ gives (int 127)
  pub to_byte_minus : convert conversions.IntToByte (int 128) ≡ gives (int_minus 128)
  pub to_byte_low : convert conversions.IntToByte (int 511) ≡ gives (int_minus 1)
  pub to_byte_of_minus : convert conversions.IntToByte (int_minus 129) ≡ gives (int 127)
  pub to_char : convert conversions.IntToChar (int 65537) ≡ gives (int 1)
  pub to_char_of_minus : convert conversions.IntToChar (int_minus 1) ≡ gives (int 65535)
  pub to_short : convert conversions.IntToShort (int 32767) ≡ gives (int 32767)
  pub to_short_minus : convert conversions.IntToShort (int 32768) ≡ gives (int_minus 32768)
  pub to_short_of_minus : convert conversions.IntToShort (int_minus 65535) ≡ gives (int 1)
  -- constants
  pub zero : computes (insns.Compute (compute.LongConstant longs.Zero)) [] ≡ gives (long 0)
  pub one : computes (insns.Compute (compute.LongConstant longs.One)) [] ≡ gives (long 1)
  -- operands of another kind, and too few
  pub int_and_long : ints operators.Add (int 1) (long 1) ≡ Err TagFault
  pub long_places : shift_long shifts.Left (long 1) (long 1) ≡ Err TagFault
  pub too_few : effect (on_stack (int 1 ∷ [])) (insns.Compute (compute.Arithmetic numbers.Int operators.Add)) ≡ Err StackFault
