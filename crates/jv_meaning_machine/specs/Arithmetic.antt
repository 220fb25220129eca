-- Computations on numbers (JVMS 6.5): ints have 32 bits and longs 64, and what is more wraps.
use Rattle.std.specs.Prelude.{ℕ, ◌/◌, ◌%◌, ◌^◌, ℤ, pos, negsuc, ◌-ℤ◌, nat_abs, Bool, not, ◌||◌, int_lt, int_rem, List, [], ◌∷◌, Ok, Err, slice_get, if◌then◌else◌}
use Rattle.std.specs.Int.{Width, w32, w64, cast_signed, cast_unsigned, int_wrapping_add, int_wrapping_sub, int_wrapping_mul, int_wrapping_div, int_wrapping_neg, int_bit_and, int_bit_or, int_bit_xor, int_shl, int_shr}
use Rattle.std.specs.Option.{unwrap_or}
use Rattle.std.specs.Ordering.{int_eq}
use Rattle.jv_code.specs.declared.kinds.ArithmeticOperator.{ArithmeticOperator}
use Rattle.jv_code.specs.declared.kinds.ArithmeticOperator.TheVariants as operators
use Rattle.jv_code.specs.declared.kinds.Computation.{Computation}
use Rattle.jv_code.specs.declared.kinds.Computation.TheVariants as compute
use Rattle.jv_code.specs.declared.kinds.Condition.{Condition}
use Rattle.jv_code.specs.declared.kinds.Condition.TheVariants as conditions
use Rattle.jv_code.specs.declared.kinds.Conversion.{Conversion}
use Rattle.jv_code.specs.declared.kinds.Conversion.TheVariants as conversions
use Rattle.jv_code.specs.declared.kinds.DivisionOperator.{DivisionOperator}
use Rattle.jv_code.specs.declared.kinds.DivisionOperator.TheVariants as divisions
use Rattle.jv_code.specs.declared.kinds.LongValue.{LongValue}
use Rattle.jv_code.specs.declared.kinds.LongValue.TheVariants as longs
use Rattle.jv_code.specs.declared.kinds.NumberKind.{NumberKind}
use Rattle.jv_code.specs.declared.kinds.NumberKind.TheVariants as numbers
use Rattle.jv_code.specs.declared.kinds.ShiftOperator.{ShiftOperator}
use Rattle.jv_code.specs.declared.kinds.ShiftOperator.TheVariants as shifts
use Rattle.jv_code.specs.Switches.{distances_in, pairs_in, distance_for}
use Rattle.jv_meaning_machine.specs.Faults.{OrFault, ◌>>=◌}
use Rattle.jv_meaning_machine.specs.Faults.Fault.{TagFault}
use Rattle.jv_meaning_machine.specs.Values.{Value, low_byte, low_short, low_char}
use Rattle.jv_meaning_machine.specs.Values.Value.{Int, Long}

-- ---- numbers and values

abbrev pub width_of : NumberKind → Width
width_of numbers.Int = w32
width_of numbers.Long = w64

abbrev pub number_value : NumberKind → ℤ → Value
number_value numbers.Int number = Int number
number_value numbers.Long number = Long number

abbrev pub as_int : Value → OrFault ℤ
as_int (Int number) = Ok number
as_int _ = Err TagFault

abbrev pub as_long : Value → OrFault ℤ
as_long (Long number) = Ok number
as_long _ = Err TagFault

abbrev pub as_number : NumberKind → Value → OrFault ℤ
as_number numbers.Int value = as_int value
as_number numbers.Long value = as_long value

-- the operands of an instruction: none, one, two
abbrev pub none : {A : Type 0} → A → List Value → OrFault A
none a [] = Ok a
none a _ = Err TagFault

abbrev pub one : List Value → OrFault Value
one (value ∷ []) = Ok value
one _ = Err TagFault

abbrev pub two : List Value → OrFault (Value × Value)
two (first ∷ second ∷ []) = Ok (first, second)
two _ = Err TagFault

-- ---- operators

abbrev pub arithmetic : ArithmeticOperator → Width → ℤ → ℤ → ℤ
arithmetic operators.Add w a b = int_wrapping_add w a b
arithmetic operators.Subtract w a b = int_wrapping_sub w a b
arithmetic operators.Multiply w a b = int_wrapping_mul w a b
arithmetic operators.And w a b = int_bit_and w a b
arithmetic operators.Or w a b = int_bit_or w a b
arithmetic operators.Xor w a b = int_bit_xor w a b

-- toward zero, where the second is not 0; the quotient of the least number and -1 wraps to the least number
abbrev pub divided : DivisionOperator → Width → ℤ → ℤ → ℤ
divided divisions.Divide w a b = int_wrapping_div w a b
divided divisions.Remainder w a b = int_rem a b

-- the places of a shift: the low five bits of the second operand, or the low six for a long
abbrev pub places : NumberKind → ℤ → ℕ
places numbers.Int by = cast_unsigned w32 by % 32
places numbers.Long by = cast_unsigned w32 by % 64

abbrev pub shifted : ShiftOperator → Width → ℤ → ℕ → ℤ
shifted shifts.Left w a by = int_shl w a by
shifted shifts.Right w a by = int_shr a by
shifted shifts.UnsignedRight w a by = cast_signed w (cast_unsigned w a / 2 ^ by)

abbrev pub converted : Conversion → Value → OrFault Value
converted conversions.IntToLong value = as_int value >>= λ a. Ok (Long a)
converted conversions.LongToInt value = as_long value >>= λ a. Ok (Int (cast_signed w32 (cast_unsigned w64 a % 4294967296)))
converted conversions.IntToByte value = as_int value >>= λ a. Ok (Int (low_byte a))
converted conversions.IntToChar value = as_int value >>= λ a. Ok (Int (low_char a))
converted conversions.IntToShort value = as_int value >>= λ a. Ok (Int (low_short a))

-- 1, 0 or -1
abbrev pub compared : ℤ → ℤ → ℤ
compared a b = if int_lt b a then pos 1 else if int_lt a b then negsuc 0 else pos 0

abbrev pub long_constant_value : LongValue → ℤ
long_constant_value longs.Zero = pos 0
long_constant_value longs.One = pos 1

-- what a computation gives for its operands
abbrev pub computed : Computation → List Value → OrFault Value
computed (compute.IntConstant value form) values = none (Int value) values
computed (compute.LongConstant value) values = none (Long (long_constant_value value)) values
computed (compute.Arithmetic kind operator) values =
    two values >>= λ p. as_number kind p.0 >>= λ a. as_number kind p.1 >>= λ b.
    Ok (number_value kind (arithmetic operator (width_of kind) a b))
computed (compute.Negate kind) values =
    one values >>= as_number kind >>= λ a. Ok (number_value kind (int_wrapping_neg (width_of kind) a))
computed (compute.Shift kind operator) values =
    two values >>= λ p. as_number kind p.0 >>= λ a. as_int p.1 >>= λ by.
    Ok (number_value kind (shifted operator (width_of kind) a (places kind by)))
computed (compute.Convert conversion) values = one values >>= converted conversion
computed compute.CompareLongs values =
    two values >>= λ p. as_long p.0 >>= λ a. as_long p.1 >>= λ b. Ok (Int (compared a b))

-- ---- conditions and switches

abbrev pub holds : Condition → ℤ → ℤ → Bool
holds conditions.Equal a b = int_eq a b
holds conditions.NotEqual a b = not (int_eq a b)
holds conditions.Less a b = int_lt a b
holds conditions.GreaterOrEqual a b = not (int_lt a b)
holds conditions.Greater a b = int_lt b a
holds conditions.LessOrEqual a b = not (int_lt b a)

-- the distance of a number from the lowest to the highest, and else the default one
abbrev pub table_distance : ℤ → ℤ → ℤ → List ℕ → ℤ → ℤ
table_distance default low high distances number =
    if int_lt number low || int_lt high number then default
    else unwrap_or (slice_get (distances_in distances) (nat_abs (number -ℤ low))) default

-- the distance of a key, and else the default one
abbrev pub key_distance : ℤ → List ℕ → ℤ → ℤ
key_distance default pairs number = unwrap_or (distance_for number (pairs_in pairs)) default
