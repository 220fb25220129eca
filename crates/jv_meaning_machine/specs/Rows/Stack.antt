-- Worked rows (JVMS 2.6, 6.5): forms of the stack, local variables, branches and switches, computed.
use Rattle.std.specs.Prelude.{◌≡◌, ℕ, ℤ, pos, negsuc, List, [], ◌∷◌, Ok, Err}
use Rattle.std.specs.List.{flat_map}
use Rattle.jv_code.specs.declared.insn.Insn.TheVariants as insns
use Rattle.jv_code.specs.declared.kinds.Condition.{Condition}
use Rattle.jv_code.specs.declared.kinds.Condition.TheVariants as conditions
use Rattle.jv_code.specs.declared.kinds.Equality.TheVariants as equalities
use Rattle.jv_code.specs.declared.kinds.IncrementForm.TheVariants as increment
use Rattle.jv_code.specs.declared.kinds.JumpForm.TheVariants as jump
use Rattle.jv_code.specs.declared.kinds.LocalForm.TheVariants as local
use Rattle.jv_code.specs.declared.kinds.StackForm.{StackForm}
use Rattle.jv_code.specs.declared.kinds.StackForm.TheVariants as forms
use Rattle.jv_code.specs.declared.kinds.Test.{Test}
use Rattle.jv_code.specs.declared.kinds.Test.TheVariants as tests
use Rattle.jv_code.specs.declared.kinds.ValueKind.{ValueKind}
use Rattle.jv_code.specs.declared.kinds.ValueKind.TheVariants as kinds
use Rattle.jv_code.specs.declared.kinds.WordKind.TheVariants as word_kinds
use Rattle.jv_code.specs.Numbers.{signed32}
use Rattle.jv_meaning_machine.specs.Faults.{OrFault}
use Rattle.jv_meaning_machine.specs.Faults.Fault.{OffsetFault, StackFault, LocalFault, TagFault}
use Rattle.jv_meaning_machine.specs.Values.{Value}
use Rattle.jv_meaning_machine.specs.Values.Value.{Null, Reference, Half, Unset}
use Rattle.jv_meaning_machine.specs.Effects.{Effect}
use Rattle.jv_meaning_machine.specs.Effects.Effect.{Goes}
use Rattle.jv_meaning_machine.specs.Rows.InstructionSamples.{effect, follows, on_stack, with_locals, int, int_minus, long}

-- ---- forms of the stack, whose top is last here; what stands below stays

abbrev pub moves : StackForm → List Value → OrFault Effect
moves form stack = effect (on_stack (Null ∷ stack)) (insns.Stack form)

abbrev pub to : List Value → OrFault Effect
to stack = follows 1 [] (Null ∷ stack)

-- a to d have one word, and j and k are longs
abbrev pub a : Value
a = int 1

abbrev pub b : Value
b = int 2

abbrev pub c : Value
c = int 3

abbrev pub d : Value
d = int 4

abbrev pub j : Value
j = long 5

abbrev pub k : Value
k = long 6

pub record FormRows : Type 0 where
  pub pop : moves forms.Pop (a ∷ b ∷ []) ≡ to (a ∷ [])
  pub pop2 : moves forms.Pop2 (a ∷ b ∷ c ∷ []) ≡ to (a ∷ [])
  pub pop_null : moves forms.Pop (a ∷ Null ∷ []) ≡ to (a ∷ [])
  pub pop2_nulls : moves forms.Pop2 (Null ∷ Null ∷ []) ≡ to []
  pub pop_of_one : effect (on_stack (a ∷ [])) (insns.Stack forms.Pop) ≡ follows 1 [] []
  pub pop2_of_two : effect (on_stack (a ∷ b ∷ [])) (insns.Stack forms.Pop2) ≡ follows 1 [] []
  pub pop2_long : moves forms.Pop2 (a ∷ j ∷ []) ≡ to (a ∷ [])
  pub dup : moves forms.Dup (a ∷ b ∷ []) ≡ to (a ∷ b ∷ b ∷ [])
  pub dup_x1 : moves forms.DupX1 (a ∷ b ∷ []) ≡ to (b ∷ a ∷ b ∷ [])
  pub dup_x2 : moves forms.DupX2 (a ∷ b ∷ c ∷ []) ≡ to (c ∷ a ∷ b ∷ c ∷ [])
  pub dup_x2_long : moves forms.DupX2 (j ∷ c ∷ []) ≡ to (c ∷ j ∷ c ∷ [])
  pub dup2 : moves forms.Dup2 (a ∷ b ∷ []) ≡ to (a ∷ b ∷ a ∷ b ∷ [])
  pub dup2_long : moves forms.Dup2 (a ∷ j ∷ []) ≡ to (a ∷ j ∷ j ∷ [])
  pub dup2_x1 : moves forms.Dup2X1 (a ∷ b ∷ c ∷ []) ≡ to (b ∷ c ∷ a ∷ b ∷ c ∷ [])
  pub dup2_x1_long : moves forms.Dup2X1 (a ∷ j ∷ []) ≡ to (j ∷ a ∷ j ∷ [])
  pub dup2_x2 : moves forms.Dup2X2 (a ∷ b ∷ c ∷ d ∷ []) ≡ to (c ∷ d ∷ a ∷ b ∷ c ∷ d ∷ [])
  pub dup2_x2_long : moves forms.Dup2X2 (a ∷ b ∷ j ∷ []) ≡ to (j ∷ a ∷ b ∷ j ∷ [])
  pub dup2_x2_under_long : moves forms.Dup2X2 (j ∷ c ∷ d ∷ []) ≡ to (c ∷ d ∷ j ∷ c ∷ d ∷ [])
  pub dup2_x2_longs : moves forms.Dup2X2 (j ∷ k ∷ []) ≡ to (k ∷ j ∷ k ∷ [])
  pub swap : moves forms.Swap (a ∷ b ∷ []) ≡ to (b ∷ a ∷ [])
  -- no form cuts a long
  pub pop_cuts : moves forms.Pop (a ∷ j ∷ []) ≡ Err TagFault
  pub pop2_cuts : moves forms.Pop2 (j ∷ a ∷ []) ≡ Err TagFault
  pub dup_cuts : moves forms.Dup (j ∷ []) ≡ Err TagFault
  pub dup_x1_cuts : moves forms.DupX1 (j ∷ a ∷ []) ≡ Err TagFault
  pub dup_x2_cuts : moves forms.DupX2 (j ∷ b ∷ c ∷ []) ≡ Err TagFault
  pub dup2_cuts : moves forms.Dup2 (j ∷ b ∷ []) ≡ Err TagFault
  pub dup2_x1_cuts : moves forms.Dup2X1 (j ∷ k ∷ []) ≡ Err TagFault
  pub dup2_x2_cuts : moves forms.Dup2X2 (j ∷ b ∷ k ∷ []) ≡ Err TagFault
  pub swap_cuts : moves forms.Swap (j ∷ a ∷ []) ≡ Err TagFault
  -- and none takes what is not there
  pub swap_of_one : effect (on_stack (a ∷ [])) (insns.Stack forms.Swap) ≡ Err StackFault
  pub dup2_of_one : effect (on_stack (a ∷ [])) (insns.Stack forms.Dup2) ≡ Err StackFault

-- ---- local variables, of which a long has two

abbrev pub loads : ValueKind → ℕ → List Value → OrFault Effect
loads kind index locals = effect (with_locals locals []) (insns.Load kind index local.Opcode)

abbrev pub stores_int : ℕ → List Value → OrFault Effect
stores_int index locals = effect (with_locals locals (a ∷ [])) (insns.Store word_kinds.Int index local.Opcode)

abbrev pub stores_long : ℕ → List Value → OrFault Effect
stores_long index locals = effect (with_locals locals (j ∷ [])) (insns.StoreLong index local.Opcode)

-- iinc by a number, in three bytes
abbrev pub increments : Value → ℤ → OrFault Effect
increments number by = effect (with_locals (Null ∷ number ∷ []) []) (insns.Increment 1 by increment.Byte)

pub record LocalRows : Type 0 where
  pub int_loaded : loads kinds.Int 1 (Null ∷ a ∷ []) ≡ follows 1 (Null ∷ a ∷ []) (a ∷ [])
  pub long_loaded : loads kinds.Long 0 (j ∷ Half ∷ []) ≡ follows 1 (j ∷ Half ∷ []) (j ∷ [])
  pub null_loaded : loads kinds.Reference 0 (Null ∷ []) ≡ follows 1 (Null ∷ []) (Null ∷ [])
  pub other_kind : loads kinds.Int 0 (Null ∷ []) ≡ Err TagFault
  pub long_as_int : loads kinds.Int 0 (j ∷ Half ∷ []) ≡ Err TagFault
  pub half : loads kinds.Int 1 (j ∷ Half ∷ []) ≡ Err LocalFault
  pub half_as_long : loads kinds.Long 1 (j ∷ Half ∷ []) ≡ Err LocalFault
  pub nothing : loads kinds.Reference 0 (Unset ∷ []) ≡ Err LocalFault
  pub outside : loads kinds.Int 1 (a ∷ []) ≡ Err LocalFault
  pub int_stored : stores_int 1 (Null ∷ Null ∷ []) ≡ follows 1 (Null ∷ a ∷ []) []
  pub long_stored : stores_long 1 (Null ∷ Null ∷ Null ∷ []) ≡ follows 1 (Null ∷ j ∷ Half ∷ []) []
  -- a store over half of a long takes the other half
  pub over_first : stores_int 0 (k ∷ Half ∷ c ∷ []) ≡ follows 1 (a ∷ Unset ∷ c ∷ []) []
  pub over_second : stores_int 1 (k ∷ Half ∷ c ∷ []) ≡ follows 1 (Unset ∷ a ∷ c ∷ []) []
  pub over_two : stores_long 1 (k ∷ Half ∷ k ∷ Half ∷ []) ≡ follows 1 (Unset ∷ j ∷ Half ∷ Unset ∷ []) []
  pub over_same : stores_long 0 (k ∷ Half ∷ c ∷ []) ≡ follows 1 (j ∷ Half ∷ c ∷ []) []
  pub int_as_reference : effect (with_locals (Null ∷ []) (a ∷ [])) (insns.Store word_kinds.Reference 0 local.Opcode) ≡ Err TagFault
  pub null_as_int : effect (with_locals (Null ∷ []) (Null ∷ [])) (insns.Store word_kinds.Int 0 local.Opcode) ≡ Err TagFault
  pub no_room : stores_long 1 (Null ∷ Null ∷ []) ≡ Err LocalFault
  -- behind wide
  pub wide_load :
      effect (with_locals (a ∷ []) []) (insns.Load kinds.Int 0 local.Wide) ≡ follows 4 (a ∷ []) (a ∷ [])
  pub wide_store :
      effect (with_locals (Null ∷ Null ∷ []) (j ∷ [])) (insns.StoreLong 0 local.Wide) ≡ follows 4 (j ∷ Half ∷ []) []
  pub wide_increment :
      effect (with_locals (a ∷ []) []) (insns.Increment 0 (negsuc 299) increment.Wide) ≡ follows 6 (int_minus 299 ∷ []) []
  pub increment_wraps : increments (int 2147483647) (pos 1) ≡ follows 3 (Null ∷ int_minus 2147483648 ∷ []) []
  pub increment_down : increments (int_minus 2147483648) (negsuc 0) ≡ follows 3 (Null ∷ int 2147483647 ∷ []) []

-- ---- branches by 10 bytes backward, from offset 20

abbrev pub branches : Test → List Value → OrFault Effect
branches test stack = effect (on_stack (a ∷ stack)) (insns.Branch test (negsuc 9))

abbrev pub taken : OrFault Effect
taken = Ok (Goes 10 [] (a ∷ []))

abbrev pub not_taken : OrFault Effect
not_taken = follows 3 [] (a ∷ [])

abbrev pub zero : Condition → Value → OrFault Effect
zero condition number = branches (tests.IfInt condition) (number ∷ [])

abbrev pub both : Condition → Value → Value → OrFault Effect
both condition first second = branches (tests.IfInts condition) (first ∷ second ∷ [])

pub record BranchRows : Type 0 where
  pub ifeq : zero conditions.Equal (int 0) ≡ taken
  pub ifeq_not : zero conditions.Equal (int 1) ≡ not_taken
  pub ifne : zero conditions.NotEqual (int_minus 1) ≡ taken
  pub ifne_not : zero conditions.NotEqual (int 0) ≡ not_taken
  pub iflt : zero conditions.Less (int_minus 1) ≡ taken
  pub iflt_not : zero conditions.Less (int 0) ≡ not_taken
  pub ifge : zero conditions.GreaterOrEqual (int 0) ≡ taken
  pub ifge_not : zero conditions.GreaterOrEqual (int_minus 1) ≡ not_taken
  pub ifgt : zero conditions.Greater (int 1) ≡ taken
  pub ifgt_not : zero conditions.Greater (int 0) ≡ not_taken
  pub ifle : zero conditions.LessOrEqual (int 0) ≡ taken
  pub ifle_not : zero conditions.LessOrEqual (int 1) ≡ not_taken
  pub if_icmpeq : both conditions.Equal a b ≡ not_taken
  pub if_icmpne : both conditions.NotEqual a b ≡ taken
  pub if_icmplt : both conditions.Less (int_minus 2) (int_minus 1) ≡ taken
  pub if_icmplt_not : both conditions.Less b a ≡ not_taken
  pub if_icmpge : both conditions.GreaterOrEqual a a ≡ taken
  pub if_icmpgt : both conditions.Greater b a ≡ taken
  pub if_icmpgt_not : both conditions.Greater a b ≡ not_taken
  pub if_icmple : both conditions.LessOrEqual b a ≡ not_taken
  pub if_acmpeq : branches (tests.IfReferences equalities.Same) (Reference 3 ∷ Reference 3 ∷ []) ≡ taken
  pub if_acmpeq_not : branches (tests.IfReferences equalities.Same) (Reference 3 ∷ Reference 4 ∷ []) ≡ not_taken
  pub if_acmpeq_nulls : branches (tests.IfReferences equalities.Same) (Null ∷ Null ∷ []) ≡ taken
  pub if_acmpne : branches (tests.IfReferences equalities.Different) (Reference 3 ∷ Null ∷ []) ≡ taken
  pub if_acmpeq_null : branches (tests.IfReferences equalities.Same) (Null ∷ Reference 3 ∷ []) ≡ not_taken
  pub if_acmpeq_of_null : branches (tests.IfReferences equalities.Same) (Reference 3 ∷ Null ∷ []) ≡ not_taken
  pub if_acmpne_null : branches (tests.IfReferences equalities.Different) (Null ∷ Reference 3 ∷ []) ≡ taken
  pub ifnull : branches (tests.IfNull equalities.Same) (Null ∷ []) ≡ taken
  pub ifnull_not : branches (tests.IfNull equalities.Same) (Reference 0 ∷ []) ≡ not_taken
  pub ifnonnull : branches (tests.IfNull equalities.Different) (Reference 0 ∷ []) ≡ taken
  pub int_for_reference : branches (tests.IfNull equalities.Same) (a ∷ []) ≡ Err TagFault
  pub goto : effect (on_stack (a ∷ [])) (insns.Goto (negsuc 9) jump.Half) ≡ taken
  pub goto_far : effect (on_stack (a ∷ [])) (insns.Goto (pos 65536) jump.Quad) ≡ Ok (Goes 65556 [] (a ∷ []))
  pub nop : effect (on_stack (a ∷ [])) insns.Nop ≡ follows 1 [] (a ∷ [])
  pub null_constant : effect (on_stack (a ∷ [])) insns.NullConstant ≡ follows 1 [] (a ∷ Null ∷ [])
  -- a jump to before the code
  pub outside : effect (on_stack (Null ∷ [])) (insns.Branch (tests.IfNull equalities.Same) (negsuc 29)) ≡ Err OffsetFault

-- ---- switches

-- from -1 to 1, with a distance of its own for each, and 100 for the others
abbrev pub table_switched : Value → OrFault Effect
table_switched number =
    effect (on_stack (a ∷ number ∷ []))
    (insns.TableSwitch (0 ∷ 0 ∷ 0 ∷ []) (pos 100) (negsuc 0) (pos 1)
    (flat_map signed32.spelling (pos 40 ∷ pos 50 ∷ negsuc 9 ∷ [])))

abbrev pub greatest_alone : Value → OrFault Effect
greatest_alone number =
    effect (on_stack (a ∷ number ∷ []))
    (insns.TableSwitch (0 ∷ 0 ∷ 0 ∷ []) (pos 100) (pos 2147483647) (pos 2147483647) (signed32.spelling (pos 40)))

-- of -7 and 7
abbrev pub look_up : Value → OrFault Effect
look_up number =
    effect (on_stack (a ∷ number ∷ []))
    (insns.LookupSwitch (0 ∷ 0 ∷ 0 ∷ []) (pos 100) (flat_map signed32.spelling (negsuc 6 ∷ pos 40 ∷ pos 7 ∷ negsuc 9 ∷ [])))

abbrev pub no_keys : Value → OrFault Effect
no_keys number = effect (on_stack (a ∷ number ∷ [])) (insns.LookupSwitch (0 ∷ 0 ∷ 0 ∷ []) (pos 100) [])

abbrev pub at : ℕ → OrFault Effect
at offset = Ok (Goes offset [] (a ∷ []))

pub record SwitchRows : Type 0 where
  pub below : table_switched (int_minus 2) ≡ at 120
  pub lowest : table_switched (int_minus 1) ≡ at 60
  pub within : table_switched (int 0) ≡ at 70
  pub highest : table_switched (int 1) ≡ at 10
  pub above : table_switched (int 2) ≡ at 120
  pub least : table_switched (int_minus 2147483648) ≡ at 120
  pub greatest : greatest_alone (int 2147483647) ≡ at 60
  pub not_greatest : greatest_alone (int_minus 2147483648) ≡ at 120
  pub first_key : look_up (int_minus 7) ≡ at 60
  pub last_key : look_up (int 7) ≡ at 10
  pub no_key : look_up (int 0) ≡ at 120
  pub none : no_keys (int 0) ≡ at 120
