-- Worked rows: forms of the stack (JVMS 6.5), on items of one word and longs; and numbers, constants and branches, computed.
use Rattle.std.specs.Prelude.{◌≡◌, List, [], ◌∷◌, Option, Some, None, pos}
use Rattle.jv_stackmap.specs.declared.verification.VerificationTypeOf.TheVariants as types
use Rattle.jv_stackmap.specs.Types.{FrameType}
use Rattle.jv_code.specs.declared.insn.Insn.TheVariants as insns
use Rattle.jv_code.specs.declared.kinds.ArithmeticOperator.TheVariants as arithmetic
use Rattle.jv_code.specs.declared.kinds.Computation.TheVariants as compute
use Rattle.jv_code.specs.declared.kinds.Condition.TheVariants as conditions
use Rattle.jv_code.specs.declared.kinds.Conversion.TheVariants as conversions
use Rattle.jv_code.specs.declared.kinds.DivisionOperator.TheVariants as division
use Rattle.jv_code.specs.declared.kinds.Equality.TheVariants as equality
use Rattle.jv_code.specs.declared.kinds.IndexForm.TheVariants as index
use Rattle.jv_code.specs.declared.kinds.IntForm.TheVariants as int_forms
use Rattle.jv_code.specs.declared.kinds.JumpForm.TheVariants as jump
use Rattle.jv_code.specs.declared.kinds.LongValue.TheVariants as long_values
use Rattle.jv_code.specs.declared.kinds.NumberKind.TheVariants as number_kinds
use Rattle.jv_code.specs.declared.kinds.ShiftOperator.TheVariants as shifts
use Rattle.jv_code.specs.declared.kinds.StackForm.{StackForm}
use Rattle.jv_code.specs.declared.kinds.StackForm.TheVariants as forms
use Rattle.jv_code.specs.declared.kinds.Test.TheVariants as tests
use Rattle.jv_meaning_typing.specs.FrameChanges.{item_width}
use Rattle.jv_meaning_typing.specs.StackForms.{rearranged}
use Rattle.jv_meaning_typing.specs.Named.{string_type}
use Rattle.jv_meaning_typing.specs.Rows.Samples.{b, c, on_stack}

-- ---- forms of the stack, the top first

abbrev pub formed : StackForm → List FrameType → Option (List FrameType)
formed form stack = rearranged item_width form stack

pub record OneWordRows : Type 0 where
  pub pop : formed forms.Pop (b ∷ c ∷ []) ≡ Some (c ∷ [])
  pub pop_long : formed forms.Pop (types.Long ∷ []) ≡ None
  pub pop_none : formed forms.Pop [] ≡ None
  pub pop_top : formed forms.Pop (types.Top ∷ []) ≡ None
  pub dup : formed forms.Dup (b ∷ c ∷ []) ≡ Some (b ∷ b ∷ c ∷ [])
  pub dup_long : formed forms.Dup (types.Long ∷ []) ≡ None
  pub dup_uninitialized : formed forms.Dup (types.Uninitialized 0 ∷ []) ≡ Some (types.Uninitialized 0 ∷ types.Uninitialized 0 ∷ [])
  pub swap : formed forms.Swap (b ∷ c ∷ types.Null ∷ []) ≡ Some (c ∷ b ∷ types.Null ∷ [])
  pub swap_long : formed forms.Swap (b ∷ types.Long ∷ []) ≡ None
  pub swap_below_long : formed forms.Swap (types.Long ∷ b ∷ []) ≡ None

pub record CopyRows : Type 0 where
  pub dup_x1 : formed forms.DupX1 (b ∷ c ∷ types.Null ∷ []) ≡ Some (b ∷ c ∷ b ∷ types.Null ∷ [])
  pub dup_x1_long : formed forms.DupX1 (b ∷ types.Long ∷ []) ≡ None
  pub dup_x2 : formed forms.DupX2 (b ∷ c ∷ types.Null ∷ types.Int ∷ []) ≡ Some (b ∷ c ∷ types.Null ∷ b ∷ types.Int ∷ [])
  pub dup_x2_long : formed forms.DupX2 (b ∷ types.Long ∷ types.Int ∷ []) ≡ Some (b ∷ types.Long ∷ b ∷ types.Int ∷ [])
  -- one word and half of a long
  pub dup_x2_half : formed forms.DupX2 (b ∷ c ∷ types.Long ∷ []) ≡ None
  pub dup_x2_of_long : formed forms.DupX2 (types.Long ∷ b ∷ c ∷ []) ≡ None

pub record TwoWordRows : Type 0 where
  pub pop2 : formed forms.Pop2 (b ∷ c ∷ types.Null ∷ []) ≡ Some (types.Null ∷ [])
  pub pop2_long : formed forms.Pop2 (types.Long ∷ types.Null ∷ []) ≡ Some (types.Null ∷ [])
  pub pop2_half : formed forms.Pop2 (b ∷ types.Long ∷ []) ≡ None
  pub pop2_one : formed forms.Pop2 (b ∷ []) ≡ None
  pub dup2 : formed forms.Dup2 (b ∷ c ∷ types.Null ∷ []) ≡ Some (b ∷ c ∷ b ∷ c ∷ types.Null ∷ [])
  pub dup2_long : formed forms.Dup2 (types.Long ∷ types.Null ∷ []) ≡ Some (types.Long ∷ types.Long ∷ types.Null ∷ [])
  pub dup2_half : formed forms.Dup2 (b ∷ types.Long ∷ []) ≡ None
  pub dup2_x1 : formed forms.Dup2X1 (b ∷ c ∷ types.Null ∷ []) ≡ Some (b ∷ c ∷ types.Null ∷ b ∷ c ∷ [])
  pub dup2_x1_long : formed forms.Dup2X1 (types.Long ∷ types.Null ∷ []) ≡ Some (types.Long ∷ types.Null ∷ types.Long ∷ [])
  pub dup2_x1_half : formed forms.Dup2X1 (b ∷ c ∷ types.Long ∷ []) ≡ None

pub record FourWordRows : Type 0 where
  pub words : formed forms.Dup2X2 (b ∷ c ∷ types.Null ∷ types.Int ∷ []) ≡ Some (b ∷ c ∷ types.Null ∷ types.Int ∷ b ∷ c ∷ [])
  pub long_over_words : formed forms.Dup2X2 (types.Long ∷ types.Null ∷ types.Int ∷ [])
      ≡ Some (types.Long ∷ types.Null ∷ types.Int ∷ types.Long ∷ [])
  pub words_over_long : formed forms.Dup2X2 (b ∷ c ∷ types.Long ∷ []) ≡ Some (b ∷ c ∷ types.Long ∷ b ∷ c ∷ [])
  pub longs : formed forms.Dup2X2 (types.Long ∷ types.Long ∷ []) ≡ Some (types.Long ∷ types.Long ∷ types.Long ∷ [])
  pub half_taken : formed forms.Dup2X2 (b ∷ types.Long ∷ c ∷ []) ≡ None
  pub half_passed : formed forms.Dup2X2 (types.Long ∷ b ∷ types.Long ∷ []) ≡ None
  pub top_passed : formed forms.Dup2X2 (types.Long ∷ types.Top ∷ b ∷ []) ≡ None

-- ---- numbers

pub record NumberRows : Type 0 where
  pub iconst : on_stack (insns.Compute (compute.IntConstant (pos 1) int_forms.Opcode)) [] ≡ Some (types.Int ∷ [])
  pub lconst : on_stack (insns.Compute (compute.LongConstant long_values.Zero)) [] ≡ Some (types.Long ∷ [])
  pub iadd : on_stack (insns.Compute (compute.Arithmetic number_kinds.Int arithmetic.Add)) (types.Int ∷ types.Int ∷ c ∷ [])
      ≡ Some (types.Int ∷ c ∷ [])
  pub iadd_long : on_stack (insns.Compute (compute.Arithmetic number_kinds.Int arithmetic.Add)) (types.Int ∷ types.Long ∷ []) ≡ None
  pub iadd_one : on_stack (insns.Compute (compute.Arithmetic number_kinds.Int arithmetic.Add)) (types.Int ∷ []) ≡ None
  pub ladd : on_stack (insns.Compute (compute.Arithmetic number_kinds.Long arithmetic.Add)) (types.Long ∷ types.Long ∷ [])
      ≡ Some (types.Long ∷ [])
  pub ladd_int : on_stack (insns.Compute (compute.Arithmetic number_kinds.Long arithmetic.Add)) (types.Int ∷ types.Long ∷ []) ≡ None
  -- the number of places is an int, on top
  pub lshl : on_stack (insns.Compute (compute.Shift number_kinds.Long shifts.Left)) (types.Int ∷ types.Long ∷ []) ≡ Some (types.Long ∷ [])
  pub lshl_long : on_stack (insns.Compute (compute.Shift number_kinds.Long shifts.Left)) (types.Long ∷ types.Long ∷ []) ≡ None
  pub lcmp : on_stack (insns.Compute compute.CompareLongs) (types.Long ∷ types.Long ∷ []) ≡ Some (types.Int ∷ [])
  pub idiv : on_stack (insns.Division number_kinds.Int division.Divide) (types.Int ∷ types.Int ∷ []) ≡ Some (types.Int ∷ [])
  pub lrem_int : on_stack (insns.Division number_kinds.Long division.Remainder) (types.Int ∷ types.Int ∷ []) ≡ None

pub record ConversionRows : Type 0 where
  pub i2l : on_stack (insns.Compute (compute.Convert conversions.IntToLong)) (types.Int ∷ []) ≡ Some (types.Long ∷ [])
  pub i2l_long : on_stack (insns.Compute (compute.Convert conversions.IntToLong)) (types.Long ∷ []) ≡ None
  pub l2i : on_stack (insns.Compute (compute.Convert conversions.LongToInt)) (types.Long ∷ []) ≡ Some (types.Int ∷ [])
  pub i2b : on_stack (insns.Compute (compute.Convert conversions.IntToByte)) (types.Int ∷ []) ≡ Some (types.Int ∷ [])
  pub ineg : on_stack (insns.Compute (compute.Negate number_kinds.Int)) (types.Int ∷ []) ≡ Some (types.Int ∷ [])
  pub ineg_null : on_stack (insns.Compute (compute.Negate number_kinds.Int)) (types.Null ∷ []) ≡ None
  pub lneg : on_stack (insns.Compute (compute.Negate number_kinds.Long)) (types.Long ∷ []) ≡ Some (types.Long ∷ [])

-- ---- constants; the stack has four words

pub record ConstantRows : Type 0 where
  pub null : on_stack insns.NullConstant [] ≡ Some (types.Null ∷ [])
  pub int : on_stack (insns.PoolConstant 44 index.Byte) [] ≡ Some (types.Int ∷ [])
  pub string : on_stack (insns.PoolConstant 45 index.Half) [] ≡ Some (string_type ∷ [])
  pub class : on_stack (insns.PoolConstant 2 index.Byte) [] ≡ None
  pub long_as_word : on_stack (insns.PoolConstant 46 index.Byte) [] ≡ None
  pub long : on_stack (insns.PoolLongConstant 46) [] ≡ Some (types.Long ∷ [])
  pub second_of_long : on_stack (insns.PoolLongConstant 47) [] ≡ None
  pub int_as_long : on_stack (insns.PoolLongConstant 44) [] ≡ None
  pub fourth_word : on_stack insns.NullConstant (types.Long ∷ c ∷ []) ≡ Some (types.Null ∷ types.Long ∷ c ∷ [])
  pub fifth_word : on_stack insns.NullConstant (types.Long ∷ types.Long ∷ []) ≡ None
  pub long_as_fifth : on_stack (insns.PoolLongConstant 46) (types.Long ∷ c ∷ []) ≡ None

-- ---- branches

pub record BranchRows : Type 0 where
  pub ifeq : on_stack (insns.Branch (tests.IfInt conditions.Equal) (pos 3)) (types.Int ∷ []) ≡ Some []
  pub ifeq_null : on_stack (insns.Branch (tests.IfInt conditions.Equal) (pos 3)) (types.Null ∷ []) ≡ None
  pub if_icmplt : on_stack (insns.Branch (tests.IfInts conditions.Less) (pos 3)) (types.Int ∷ types.Int ∷ []) ≡ Some []
  pub if_icmplt_long : on_stack (insns.Branch (tests.IfInts conditions.Less) (pos 3)) (types.Int ∷ types.Long ∷ []) ≡ None
  pub if_acmpeq : on_stack (insns.Branch (tests.IfReferences equality.Same) (pos 3)) (types.Null ∷ types.Uninitialized 0 ∷ []) ≡ Some []
  pub if_acmpeq_int : on_stack (insns.Branch (tests.IfReferences equality.Same) (pos 3)) (types.Null ∷ types.Int ∷ []) ≡ None
  pub ifnull : on_stack (insns.Branch (tests.IfNull equality.Same) (pos 3)) (types.UninitializedThis ∷ []) ≡ Some []
  pub ifnull_int : on_stack (insns.Branch (tests.IfNull equality.Same) (pos 3)) (types.Int ∷ []) ≡ None
  pub ifnull_top : on_stack (insns.Branch (tests.IfNull equality.Same) (pos 3)) (types.Top ∷ []) ≡ None
  pub goto : on_stack (insns.Goto (pos 3) jump.Half) (c ∷ []) ≡ Some (c ∷ [])
  pub tableswitch : on_stack (insns.TableSwitch [] (pos 3) (pos 0) (pos 0) []) (types.Int ∷ c ∷ []) ≡ Some (c ∷ [])
  pub tableswitch_long : on_stack (insns.TableSwitch [] (pos 3) (pos 0) (pos 0) []) (types.Long ∷ []) ≡ None
  pub lookupswitch : on_stack (insns.LookupSwitch [] (pos 3) []) (types.Int ∷ []) ≡ Some []
