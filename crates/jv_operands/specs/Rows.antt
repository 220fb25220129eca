-- Worked rows: what is wanted first and isn't there, computed. The methods are those of the class C that the rows of rules have.
use Rattle.std.specs.Prelude.{◌≡◌, List, [], ◌∷◌, Option, Some, None, codes}
use Rattle.jv_text.specs.declared.descriptor.Base.TheVariants as bases
use Rattle.jv_text.specs.declared.descriptor.Element.TheVariants as elements
use Rattle.jv_stackmap.specs.declared.verification.VerificationTypeOf.TheVariants as types
use Rattle.jv_stackmap.specs.Types.{FrameType}
use Rattle.jv_code.specs.Insns.{Instruction}
use Rattle.jv_code.specs.declared.insn.Insn.TheVariants as insns
use Rattle.jv_code.specs.declared.kinds.ArithmeticOperator.TheVariants as arithmetic
use Rattle.jv_code.specs.declared.kinds.Computation.TheVariants as compute
use Rattle.jv_code.specs.declared.kinds.FieldAccess.TheVariants as access
use Rattle.jv_code.specs.declared.kinds.Invocation.TheVariants as invocations
use Rattle.jv_code.specs.declared.kinds.LocalForm.TheVariants as local
use Rattle.jv_code.specs.declared.kinds.NumberElement.TheVariants as elements_of
use Rattle.jv_code.specs.declared.kinds.NumberKind.TheVariants as number_kinds
use Rattle.jv_code.specs.declared.kinds.ShiftOperator.TheVariants as shifts
use Rattle.jv_code.specs.declared.kinds.StackForm.TheVariants as forms
use Rattle.jv_code.specs.declared.kinds.ValueKind.TheVariants as kinds
use Rattle.jv_meaning_typing.specs.Rows.Samples.{b, c, frame, in_init, in_m, method_of_c, numbers}
use Rattle.jv_operands.specs.declared.unmet.Place.TheVariants.{Item, Local}
use Rattle.jv_operands.specs.declared.want.Want.TheVariants as wants
use Rattle.jv_operands.specs.Unmet.{Unmet, first_unmet, unmet}

-- of a stack, the top first
abbrev pub on_stack : Instruction → List FrameType → Option Unmet
on_stack insn stack = first_unmet in_m insn (frame [] stack)

-- of local variables, with a long on the stack
abbrev pub in_locals : Instruction → List FrameType → Option Unmet
in_locals insn locals = first_unmet in_m insn (frame locals (types.Long ∷ []))

abbrev pub iadd : Instruction
iadd = insns.Compute (compute.Arithmetic number_kinds.Int arithmetic.Add)

abbrev pub lshl : Instruction
lshl = insns.Compute (compute.Shift number_kinds.Long shifts.Left)

pub record NumberRows : Type 0 where
  pub met : on_stack iadd (types.Int ∷ types.Int ∷ []) ≡ None
  pub below : on_stack iadd (types.Int ∷ b ∷ []) ≡ Some (unmet (Item 1) (wants.Type types.Int) (Some b))
  pub missing : on_stack iadd (types.Int ∷ []) ≡ Some (unmet (Item 1) (wants.Type types.Int) None)
  pub long : on_stack iadd (types.Long ∷ types.Int ∷ []) ≡ Some (unmet (Item 0) (wants.Type types.Int) (Some types.Long))
  -- the number of places is on top
  pub shift : on_stack lshl (types.Long ∷ types.Int ∷ []) ≡ Some (unmet (Item 0) (wants.Type types.Int) (Some types.Long))

-- byte and boolean arrays have one instruction
pub record ArrayRows : Type 0 where
  pub bytes : on_stack (insns.ArrayLoad elements_of.ByteOrBoolean) (types.Int ∷ numbers 0 bases.Char ∷ [])
      ≡ Some (unmet (Item 1) (wants.Either (numbers 0 bases.Byte) (numbers 0 bases.Boolean)) (Some (numbers 0 bases.Char)))
  pub references : on_stack insns.ReferenceArrayLoad (types.Int ∷ numbers 0 bases.Int ∷ [])
      ≡ Some (unmet (Item 1) wants.ReferenceArray (Some (numbers 0 bases.Int)))
  pub length : on_stack insns.ArrayLength (b ∷ []) ≡ Some (unmet (Item 0) wants.Array (Some b))

pub record FormRows : Type 0 where
  pub pop_long : on_stack (insns.Stack forms.Pop) (types.Long ∷ []) ≡ Some (unmet (Item 0) wants.Word (Some types.Long))
  pub swap : on_stack (insns.Stack forms.Swap) (types.Int ∷ []) ≡ Some (unmet (Item 1) wants.Word None)

-- lstore takes its variable and the next
pub record LocalRows : Type 0 where
  pub load : in_locals (insns.Load kinds.Int 1 local.Opcode) (types.Int ∷ b ∷ []) ≡ Some (unmet (Local 1) (wants.Type types.Int) (Some b))
  pub missing : in_locals (insns.Load kinds.Reference 2 local.Opcode) (types.Int ∷ b ∷ []) ≡ Some (unmet (Local 2) wants.Reference None)
  pub store : in_locals (insns.StoreLong 1 local.Opcode) (types.Int ∷ b ∷ []) ≡ Some (unmet (Local 2) wants.Any None)
  pub room : in_locals (insns.StoreLong 0 local.Opcode) (types.Int ∷ b ∷ []) ≡ None

-- 18 is C.f, an int; 2 is a class
pub record FieldRows : Type 0 where
  pub value : on_stack (insns.Field access.PutField 18) (b ∷ c ∷ []) ≡ Some (unmet (Item 0) (wants.Type types.Int) (Some b))
  pub object : on_stack (insns.Field access.PutField 18) (types.Int ∷ b ∷ []) ≡ Some (unmet (Item 1) (wants.Type c) (Some b))
  pub this : on_stack (insns.Field access.PutField 18) (types.Int ∷ types.UninitializedThis ∷ [])
      ≡ Some (unmet (Item 1) (wants.Type c) (Some types.UninitializedThis))
  pub this_in_init : first_unmet in_init (insns.Field access.PutField 18) (frame [] (types.Int ∷ types.UninitializedThis ∷ [])) ≡ None
  pub no_field : on_stack (insns.Field access.GetField 2) (types.Int ∷ []) ≡ None

-- 27 is C.m, with an int and a long, 38 a constructor without arguments
pub record CallRows : Type 0 where
  pub met : on_stack (insns.Invoke invocations.Virtual 27) (types.Long ∷ types.Int ∷ c ∷ []) ≡ None
  pub argument : on_stack (insns.Invoke invocations.Virtual 27) (types.Long ∷ types.Long ∷ c ∷ [])
      ≡ Some (unmet (Item 1) (wants.Type types.Int) (Some types.Long))
  pub object : on_stack (insns.Invoke invocations.Virtual 27) (types.Long ∷ types.Int ∷ b ∷ [])
      ≡ Some (unmet (Item 2) (wants.Type c) (Some b))
  pub constructed : on_stack (insns.Invoke invocations.Special 38) (c ∷ []) ≡ Some (unmet (Item 0) wants.Uninitialized (Some c))
  pub new : on_stack (insns.Invoke invocations.Special 38) (types.Uninitialized 0 ∷ []) ≡ None

pub record ReturnRows : Type 0 where
  pub other : first_unmet (method_of_c (codes "m") (Some (record { dimensions = 0; element = elements.Base bases.Int })))
      (insns.ReturnValue kinds.Int) (frame [] (c ∷ [])) ≡ Some (unmet (Item 0) (wants.Type types.Int) (Some c))

pub record WorkedRows : Type 0 where
  pub numbers : NumberRows
  pub arrays : ArrayRows
  pub forms : FormRows
  pub locals : LocalRows
  pub fields : FieldRows
  pub calls : CallRows
  pub returns : ReturnRows
