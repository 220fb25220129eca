-- What the rules of instructions leave of the stack.
use Rattle.std.proofs.Common.{◌≡◌, ℕ, zero, suc, ◌+◌, ◌≤◌, Bool, true, false, not, ◌&&◌, List, [], ◌∷◌, ◌++◌, length, drop, reverse, Option, Some, None, refl, sym, ap, subst, ◌∙◌, arith, if◌then◌else◌}
use Rattle.std.specs.Prelude.{nat_le, replicate, slice_get}
use Rattle.std.specs.List.{list_all, list_any}
use Rattle.std.specs.Option.{option_map}
use Rattle.std.proofs.lemmas.List.{drop-drop, length-append, length-reverse}
use Rattle.jv_format.specs.Format.{◌>>=◌}
use Rattle.jv_text.specs.Name.{is_init}
use Rattle.jv_text.specs.Types.{method_type_of}
use Rattle.jv_text.specs.declared.descriptor.FieldTypeOf.{FieldTypeOf}
use Rattle.jv_stackmap.specs.declared.verification.VerificationTypeOf.TheVariants as types
use Rattle.jv_stackmap.specs.declared.width.Width.{Width}
use Rattle.jv_stackmap.specs.declared.width.Width.TheVariants as widths
use Rattle.jv_stackmap.specs.Types.{FrameType, reference_type, value_type, words}
use Rattle.jv_stackmap.specs.Frames.{Frame, type_by_words}
use Rattle.jv_code.specs.Insns.{Instruction}
use Rattle.jv_code.specs.declared.insn.Insn.TheVariants as insns
use Rattle.jv_code.specs.declared.kinds.Computation.{Computation}
use Rattle.jv_code.specs.declared.kinds.Computation.TheVariants as compute
use Rattle.jv_code.specs.declared.kinds.Conversion.{Conversion}
use Rattle.jv_code.specs.declared.kinds.Conversion.TheVariants as conversions
use Rattle.jv_code.specs.declared.kinds.FieldAccess.{FieldAccess}
use Rattle.jv_code.specs.declared.kinds.FieldAccess.TheVariants as accesses
use Rattle.jv_code.specs.declared.kinds.Invocation.{Invocation}
use Rattle.jv_code.specs.declared.kinds.Invocation.TheVariants as invocations
use Rattle.jv_code.specs.declared.kinds.StackForm.{StackForm}
use Rattle.jv_code.specs.declared.kinds.StackForm.TheVariants as forms
use Rattle.jv_code.specs.declared.kinds.Test.{Test}
use Rattle.jv_code.specs.declared.kinds.Test.TheVariants as tests
use Rattle.jv_code.specs.declared.kinds.ValueKind.{ValueKind}
use Rattle.jv_code.specs.declared.kinds.ValueKind.TheVariants as kinds
use Rattle.jv_meaning_world.specs.Flow.{flows}
use Rattle.jv_meaning_world.specs.FrameFlow.{item_flows}
use Rattle.jv_meaning_world.specs.World.{World}
use Rattle.jv_meaning_typing.specs.Operands.{MethodReference, method_operand}
use Rattle.jv_meaning_typing.specs.Environment.{Environment, current_class}
use Rattle.jv_meaning_typing.specs.StackForms.{top_words, words_behind, item_before, taken_words, passed_words, arranged, rearranged}
use Rattle.jv_meaning_typing.specs.FrameChanges.{with_stack, with_locals, is_of_kind, taken, taken_downward, taken_as_all, taken_as_any, taken_of_kind, exchanged, item_width, stored, is_same_object, replaced}
use Rattle.jv_meaning_typing.specs.Named.{object_class_type, constant_type, long_constant_type, operand_type, operand_name, array_of_operand, array_operand, FieldUse, field_named_by, MethodUse, method_use, method_named_by, can_be_of, result_types, current_type, when}
use Rattle.jv_meaning_typing.specs.NumberRules.{Exchange, fixed_exchange, computation, conversion, test, number_arrays, element_number}
use Rattle.jv_meaning_typing.specs.ValueRules.{pushed, has_room, load, value_kind, store, increment, reference_component, with_component, is_array_or_null, array_length, take_reference, new_object, return_value, return_nothing}
use Rattle.jv_meaning_typing.specs.MemberRules.{field_guard, sets_own_field, taken_for_store, access_field, is_of_class, has_plain_name, called_on, method_guard, counts_arguments, invoke_interface, is_near, invoke_super, construct_top, invoke_init, invoke, goes_with_version, invoke_rule}
use Rattle.jv_meaning_typing.specs.Rule.{test_references, other_rule, by_exchange, effect, within_stack, rule, constructed_object}
use Rattle.jv_verify_rules.specs.Laws.{StandsOn}

-- ---- so many items are taken

abbrev Below : ℕ → List FrameType → Option (List FrameType) → Type 0
Below n stack None = Unit {0}
Below n stack (Some below) = below ≡ drop n stack

one_taken : (test : Bool) (item : FrameType) (below : List FrameType) → Below 1 (item ∷ below) (if test then Some below else None)
one_taken true item below = refl
one_taken false item below = tt

all_below : (world : World) (expected stack : List FrameType) → Below 1 stack (taken_as_all world expected stack)
all_below world expected [] = tt
all_below world expected (item ∷ below) = one_taken (list_all (item_flows world item) expected) item below

any_below : (world : World) (expected stack : List FrameType) → Below 1 stack (taken_as_any world expected stack)
any_below world expected [] = tt
any_below world expected (item ∷ below) = one_taken (list_any (item_flows world item) expected) item below

-- one step behind another
then_below : (n m : ℕ) (stack : List FrameType) (o : Option (List FrameType)) (next : List FrameType → Option (List FrameType)) → Below n stack o
    → ((below : List FrameType) → Below m below (next below)) → Below (n + m) stack (o >>= next)
then_below n m stack None next h more = tt
then_below n m stack (Some below) next h more = lead (next below) (more below)
  where
    lead : (o : Option (List FrameType)) → Below m below o → Below (n + m) stack o
    lead None b = tt
    lead (Some left) b = b ∙ (ap (drop m) h ∙ drop-drop m n stack)

downward_below : (world : World) (expected stack : List FrameType) → Below (length expected) stack (taken_downward world expected stack)
downward_below world [] stack = refl
downward_below world (first ∷ more) stack =
    let count : 1 + length more ≡ length (first ∷ more) = omega arith in
    subst (λ n. Below n stack (taken_as_all world (first ∷ []) stack >>= taken_downward world more)) count
    (then_below 1 (length more) stack (taken_as_all world (first ∷ []) stack) (taken_downward world more) (all_below world (first ∷ []) stack) (λ below. downward_below world more below))

taken_below : (world : World) (expected stack : List FrameType) → Below (length expected) stack (taken world expected stack)
taken_below world expected stack = subst (λ n. Below n stack (taken world expected stack)) (length-reverse expected) (downward_below world (reverse expected) stack)

-- ---- what is left of a stack with few items on it

module _ (before : List FrameType) where
  abbrev Stands : Option Frame → Type 0
  Stands None = Unit {0}
  Stands (Some frame) = StandsOn before frame.stack

  stands : (given : List FrameType) (taken : ℕ) → length given ≤ 6 → (stack : List FrameType) → stack ≡ given ++ drop taken before → StandsOn before stack
  stands given taken few stack is = record { given = given; taken = taken; few = few; is = is }

  same : StandsOn before before
  same = stands [] 0 (omega arith) before refl

  onto : (given : List FrameType) → length given ≤ 6 → (n : ℕ) (below : List FrameType) → below ≡ drop n before → StandsOn before (given ++ below)
  onto given few n below is = stands given n few (given ++ below) (ap (λ xs. given ++ xs) is)

  bound : {A : Type 0} (o : Option A) (next : A → Option Frame) → ((a : A) → o ≡ Some a → Stands (next a)) → Stands (o >>= next)
  bound None next h = tt
  bound (Some a) next h = h a refl

  mapped : {A : Type 0} (o : Option A) (f : A → Frame) → ((a : A) → o ≡ Some a → StandsOn before (f a).stack) → Stands (option_map f o)
  mapped None f h = tt
  mapped (Some a) f h = h a refl

  tested : (test : Bool) (frame : Frame) → StandsOn before frame.stack → Stands (when test frame)
  tested true frame h = h
  tested false frame h = tt

  chosen : (test : Bool) (o : Option Frame) → Stands o → Stands (if test then o else None)
  chosen true o h = h
  chosen false o h = tt

  -- what is left below so many items
  below_is : (n : ℕ) (o : Option (List FrameType)) → Below n before o → (below : List FrameType) → o ≡ Some below → below ≡ drop n before
  below_is n o h below e = subst (Below n before) e h

  -- items are taken, and given ones put on what is left
  put : (n : ℕ) (o : Option (List FrameType)) (frame : Frame) (given : List FrameType) → length given ≤ 6 → Below n before o
      → Stands (o >>= λ below. Some (with_stack frame (given ++ below)))
  put n o frame given few h =
      bound o (λ below. Some (with_stack frame (given ++ below))) (λ below e. onto given few n below (below_is n o h below e))

  left : (n : ℕ) (o : Option (List FrameType)) (frame : Frame) → Below n before o → Stands (o >>= λ below. Some (with_stack frame below))
  left n o frame h = bound o (λ below. Some (with_stack frame below)) (λ below e. stands [] n (omega arith) below (below_is n o h below e))

  -- one item is taken
  popped : (P : Option Frame → Type 0) → P None → (kind : ValueKind) (stack : List FrameType) (n : ℕ) → stack ≡ drop n before → (next : FrameType × List FrameType → Option Frame)
      → ((item : FrameType) (below : List FrameType) → below ≡ drop (n + 1) before → P (next (item, below))) → P (taken_of_kind kind stack >>= next)
  popped P none kind [] n e next h = none
  popped P none kind (item ∷ below) n e next h = by_test (is_of_kind kind item)
    where
      by_test : (test : Bool) → P (◌>>=◌ {A = FrameType × List FrameType} (if test then Some (item, below) else None) next)
      by_test true = h item below (ap (drop 1) e ∙ drop-drop 1 n before)
      by_test false = none

  reference_left : (stack : List FrameType) (frame : Frame) (n : ℕ) → stack ≡ drop n before
      → Stands (taken_of_kind kinds.Reference stack >>= λ popped. Some (with_stack frame popped.1))
  reference_left stack frame n e =
      popped Stands tt kinds.Reference stack n e (λ popped. Some (with_stack frame popped.1)) (λ item below is. stands [] (n + 1) (omega arith) below is)

  -- ---- forms of the stack

  -- items that come to so many words, and what is below them
  abbrev Parts : ℕ → List FrameType → Option (List FrameType × List FrameType) → Type 0
  Parts words stack None = Unit {0}
  Parts words stack (Some parts) = (length parts.0 ≤ words) × (parts.1 ≡ drop (length parts.0) stack)

  some_words : (width : FrameType → Option Width) (n : ℕ) (stack : List FrameType) → Parts n stack (top_words width n stack)
  some_words width zero stack = (omega arith, refl)
  some_words width (suc n) [] = tt
  some_words width (suc n) (item ∷ below) = by_width (width item) n (λ m. some_words width m below)
    where
      more : (m : ℕ) → m ≤ n → (o : Option (List FrameType × List FrameType)) → Parts m below o → Parts (suc n) (item ∷ below) (o >>= λ parts. Some (item_before item parts))
      more m le None h = tt
      more m le (Some parts) h = (omega (arith, le, h.0), h.1)

      by_width : (w : Option Width) (k : ℕ) → ((m : ℕ) → Parts m below (top_words width m below))
          → Parts (suc n) (item ∷ below) (words_behind (suc n) w >>= λ left. top_words width left below >>= λ parts. Some (item_before item parts))
      by_width None k h = tt
      by_width (Some widths.One) k h = more n (omega arith) (top_words width n below) (h n)
      by_width (Some widths.Two) k h = by_count n refl
        where
          by_count : (c : ℕ) → c ≡ n → Parts (suc n) (item ∷ below) (words_behind (suc c) (Some widths.Two) >>= λ left. top_words width left below >>= λ parts. Some (item_before item parts))
          by_count zero e = tt
          by_count (suc c) e = more c (omega (arith, e)) (top_words width c below) (h c)

  few_arranged : (form : StackForm) (taken passed : List FrameType) → length taken ≤ taken_words form → length passed ≤ passed_words form → length (arranged form taken passed) ≤ 6
  few_arranged forms.Pop taken passed t p = omega (arith, p)
  few_arranged forms.Pop2 taken passed t p = omega (arith, p)
  few_arranged forms.Swap taken passed t p = omega (arith, t, p, length-append passed taken)
  few_arranged forms.Dup taken passed t p = omega (arith, t, p, length-append passed taken, length-append taken (passed ++ taken))
  few_arranged forms.DupX1 taken passed t p = omega (arith, t, p, length-append passed taken, length-append taken (passed ++ taken))
  few_arranged forms.DupX2 taken passed t p = omega (arith, t, p, length-append passed taken, length-append taken (passed ++ taken))
  few_arranged forms.Dup2 taken passed t p = omega (arith, t, p, length-append passed taken, length-append taken (passed ++ taken))
  few_arranged forms.Dup2X1 taken passed t p = omega (arith, t, p, length-append passed taken, length-append taken (passed ++ taken))
  few_arranged forms.Dup2X2 taken passed t p = omega (arith, t, p, length-append passed taken, length-append taken (passed ++ taken))

  moved : (form : StackForm) (frame : Frame) → frame.stack ≡ before → Stands (option_map (with_stack frame) (rearranged item_width form frame.stack))
  moved form frame e = by_top (top_words item_width (taken_words form) frame.stack) (some_words item_width (taken_words form) frame.stack)
    where
      by_next : (a : List FrameType × List FrameType) → Parts (taken_words form) frame.stack (Some a) → (o : Option (List FrameType × List FrameType)) → Parts (passed_words form) a.1 o
          → Stands (option_map (with_stack frame) (o >>= λ b. Some (arranged form a.0 b.0 ++ b.1)))
      by_next a first None second = tt
      by_next a first (Some b) second =
          stands (arranged form a.0 b.0) (length a.0 + length b.0) (few_arranged form a.0 b.0 first.0 second.0) (arranged form a.0 b.0 ++ b.1)
          (ap (λ xs. arranged form a.0 b.0 ++ xs)
          (second.1 ∙ (ap (drop (length b.0)) (first.1 ∙ ap (drop (length a.0)) e) ∙ drop-drop (length b.0) (length a.0) before)))

      by_top : (o : Option (List FrameType × List FrameType)) → Parts (taken_words form) frame.stack o
          → Stands (option_map (with_stack frame) (o >>= λ a. top_words item_width (passed_words form) a.1 >>= λ b. Some (arranged form a.0 b.0 ++ b.1)))
      by_top None h = tt
      by_top (Some a) h = by_next a h (top_words item_width (passed_words form) a.1) (some_words item_width (passed_words form) a.1)

-- ---- what few items are given

abbrev FewResults : Option MethodUse → Type 0
FewResults None = Unit {0}
FewResults (Some method) = length method.result ≤ 6

through : {A : Type 0} (o : Option A) (next : A → Option MethodUse) → ((a : A) → FewResults (next a)) → FewResults (o >>= next)
through None next h = tt
through (Some a) next h = h a

abbrev FewGiven : Option Exchange → Type 0
FewGiven None = Unit {0}
FewGiven (Some exchange) = length exchange.gives ≤ 6

few_of_method : (env : Environment) (index : ℕ) (method : MethodUse) → method_named_by env index ≡ Some method → length method.result ≤ 6
few_of_method env index method e = by_operand (method_operand (current_class env) index) e
  where
    few_types : (o : Option (FieldTypeOf (List ℕ))) → length (result_types o) ≤ 6
    few_types None = omega arith
    few_types (Some type) = omega arith

    by_operand : (o : Option MethodReference) → (o >>= λ m. when (can_be_of m.constant m.member.class) m >>= λ m.
        reference_type m.member.class >>= λ owner. method_type_of m.member.descriptor >>= λ descriptor. Some (method_use m owner descriptor)) ≡ Some method
        → length method.result ≤ 6
    by_operand o is = subst FewResults is (through o _ (λ m. through (when (can_be_of m.constant m.member.class) m) _ (λ m.
        through (reference_type m.member.class) _ (λ owner. through (method_type_of m.member.descriptor) _ (λ descriptor. few_types descriptor.result)))))

few_given : (insn : Instruction) (e : Exchange) → fixed_exchange insn ≡ Some e → length e.gives ≤ 6
few_given insn e is = subst FewGiven is (by_insn insn)
  where
    by_conversion : (c : Conversion) → length (conversion c).gives ≤ 6
    by_conversion conversions.IntToLong = omega arith
    by_conversion conversions.LongToInt = omega arith
    by_conversion conversions.IntToByte = omega arith
    by_conversion conversions.IntToChar = omega arith
    by_conversion conversions.IntToShort = omega arith

    by_computation : (c : Computation) → length (computation c).gives ≤ 6
    by_computation (compute.IntConstant value form) = omega arith
    by_computation (compute.LongConstant value) = omega arith
    by_computation (compute.Arithmetic kind operator) = omega arith
    by_computation (compute.Negate kind) = omega arith
    by_computation (compute.Shift kind operator) = omega arith
    by_computation (compute.Convert what) = by_conversion what
    by_computation compute.CompareLongs = omega arith

    by_branch : (t : Test) → FewGiven (test t)
    by_branch (tests.IfInt condition) = omega arith
    by_branch (tests.IfInts condition) = omega arith
    by_branch (tests.IfReferences equality) = tt
    by_branch (tests.IfNull equality) = tt

    by_insn : (insn : Instruction) → FewGiven (fixed_exchange insn)
    by_insn insns.Nop = omega arith
    by_insn insns.NullConstant = omega arith
    by_insn (insns.Compute what) = by_computation what
    by_insn (insns.Division kind operator) = omega arith
    by_insn (insns.Branch condition distance) = by_branch condition
    by_insn (insns.Goto distance form) = omega arith
    by_insn (insns.TableSwitch padding default low high distances) = omega arith
    by_insn (insns.LookupSwitch padding default pairs) = omega arith
    by_insn insns.ReferenceArrayStore = omega arith
    by_insn (insns.NewArray element) = omega arith
    by_insn insns.Throw = omega arith
    by_insn (insns.PoolConstant index form) = tt
    by_insn (insns.PoolLongConstant index) = tt
    by_insn (insns.Load kind index form) = tt
    by_insn (insns.Store kind index form) = tt
    by_insn (insns.StoreLong index form) = tt
    by_insn (insns.Increment index value form) = tt
    by_insn (insns.ArrayLoad element) = tt
    by_insn insns.ReferenceArrayLoad = tt
    by_insn (insns.ArrayStore element) = tt
    by_insn (insns.Stack form) = tt
    by_insn (insns.ReturnValue kind) = tt
    by_insn insns.Return = tt
    by_insn (insns.Field access index) = tt
    by_insn (insns.Invoke how index) = tt
    by_insn (insns.InvokeInterface index count) = tt
    by_insn (insns.New index) = tt
    by_insn (insns.NewReferenceArray index) = tt
    by_insn (insns.NewMultiArray index dimensions) = tt
    by_insn insns.ArrayLength = tt
    by_insn (insns.CheckCast index) = tt
    by_insn (insns.InstanceOf index) = tt

-- ---- rules

module _ (env : Environment) (frame : Frame) where
  abbrev Left : Option Frame → Type 0
  Left = Stands frame.stack

  exchanged_stands : (expected given : List FrameType) → length given ≤ 6 → Left (exchanged env.world expected given frame)
  exchanged_stands expected given few = put frame.stack (length expected) (taken env.world expected frame.stack) frame given few (taken_below env.world expected frame.stack)

  pushed_stands : (type : FrameType) → StandsOn frame.stack (type ∷ frame.stack)
  pushed_stands type = stands frame.stack (type ∷ []) 0 (omega arith) (type ∷ frame.stack) refl

  two_below : (n : ℕ) (expected : List FrameType) (next : List FrameType → Option (List FrameType)) → ((below : List FrameType) → Below n below (next below))
      → Below (length expected + n) frame.stack (taken env.world expected frame.stack >>= next)
  two_below n expected next h = then_below (length expected) n frame.stack (taken env.world expected frame.stack) next (taken_below env.world expected frame.stack) h

  with_stored : (below : List FrameType) → StandsOn frame.stack below → (o : Option (List FrameType)) → Left (o >>= λ locals. Some (with_locals (with_stack frame below) locals))
  with_stored below h None = tt
  with_stored below h (Some locals) = h

  store_stands : (kind : ValueKind) (index : ℕ) → Left (store kind index frame)
  store_stands kind index =
      popped frame.stack (Stands frame.stack) tt kind frame.stack 0 refl
      (λ popped. stored (type_by_words popped.0) index frame.locals >>= λ locals. Some (with_locals (with_stack frame popped.1) locals))
      (λ item below is. with_stored below (stands frame.stack [] 1 (omega arith) below is) (stored (type_by_words item) index frame.locals))

  load_stands : (kind : ValueKind) (index : ℕ) → Left (load kind index frame)
  load_stands kind index =
      bound frame.stack (slice_get frame.locals index) (λ type. when (is_of_kind kind type && has_room kind index frame.locals) (pushed frame type))
      (λ type e. tested frame.stack (is_of_kind kind type && has_room kind index frame.locals) (pushed frame type) (pushed_stands type))

  increment_stands : (index : ℕ) → Left (increment index frame)
  increment_stands index =
      bound frame.stack (slice_get frame.locals index) (λ type. when (is_of_kind kinds.Int type) frame) (λ type e. tested frame.stack (is_of_kind kinds.Int type) frame (same frame.stack))

  component_stands : (n : ℕ) (stack : List FrameType) → stack ≡ drop n frame.stack → Left (with_component frame stack)
  component_stands n [] e = tt
  component_stands n (array ∷ below) e =
      mapped frame.stack (reference_component array) (λ type. with_stack frame (type ∷ below))
      (λ type is. stands frame.stack (type ∷ []) (n + 1) (omega arith) (type ∷ below) (ap (λ xs. type ∷ xs) (ap (drop 1) e ∙ drop-drop 1 n frame.stack)))

  test_stands : (test : Test) → Left (test_references test frame)
  test_stands (tests.IfInt condition) = tt
  test_stands (tests.IfInts condition) = tt
  test_stands (tests.IfNull equality) = reference_left frame.stack frame.stack frame 0 refl
  test_stands (tests.IfReferences equality) =
      popped frame.stack (λ o. Stands frame.stack (o >>= take_reference)) tt kinds.Reference frame.stack 0 refl (λ popped. Some (with_stack frame popped.1))
      (λ item below is. reference_left frame.stack below (with_stack frame below) 1 is)

  return_stands : (kind : ValueKind) (result : Option (FieldTypeOf (List ℕ))) → Left (return_value env kind result frame)
  return_stands kind None = tt
  return_stands kind (Some result) =
      chosen frame.stack (is_of_kind kind (value_type result)) (exchanged env.world (value_type result ∷ []) [] frame) (exchanged_stands (value_type result ∷ []) [] (omega arith))

  leave_stands : (result : Option (FieldTypeOf (List ℕ))) → Left (return_nothing result frame)
  leave_stands None = tested frame.stack (not frame.flag_this_uninit) frame (same frame.stack)
  leave_stands (Some result) = tt

  length_stands : (stack : List FrameType) → stack ≡ frame.stack → Left (option_map (with_stack frame) (array_length stack))
  length_stands [] e = tt
  length_stands (array ∷ below) e = by_test (is_array_or_null array)
    where
      by_test : (test : Bool) → Left (option_map (with_stack frame) (when test (types.Int ∷ below)))
      by_test true = stands frame.stack (types.Int ∷ []) 1 (omega arith) (types.Int ∷ below) (ap (λ xs. types.Int ∷ xs) (ap (drop 1) e))
      by_test false = tt

  for_store_below : (field : FieldUse) (stack : List FrameType) → Below 1 stack (taken_for_store env field stack)
  for_store_below field [] = tt
  for_store_below field (types.UninitializedThis ∷ below) = one_taken (sets_own_field env field) types.UninitializedThis below
  for_store_below field (types.Top ∷ below) = all_below env.world (field.owner ∷ field_guard env field) (types.Top ∷ below)
  for_store_below field (types.Int ∷ below) = all_below env.world (field.owner ∷ field_guard env field) (types.Int ∷ below)
  for_store_below field (types.Long ∷ below) = all_below env.world (field.owner ∷ field_guard env field) (types.Long ∷ below)
  for_store_below field (types.Null ∷ below) = all_below env.world (field.owner ∷ field_guard env field) (types.Null ∷ below)
  for_store_below field (types.Class name ∷ below) = all_below env.world (field.owner ∷ field_guard env field) (types.Class name ∷ below)
  for_store_below field (types.Array components ∷ below) = all_below env.world (field.owner ∷ field_guard env field) (types.Array components ∷ below)
  for_store_below field (types.Uninitialized offset ∷ below) = all_below env.world (field.owner ∷ field_guard env field) (types.Uninitialized offset ∷ below)

  access_stands : (access : FieldAccess) (field : FieldUse) → Left (access_field env access field frame)
  access_stands accesses.GetStatic field = exchanged_stands [] (field.type ∷ []) (omega arith)
  access_stands accesses.PutStatic field = exchanged_stands (field.type ∷ []) [] (omega arith)
  access_stands accesses.GetField field =
      put frame.stack 1 (taken_as_all env.world (field.owner ∷ field_guard env field) frame.stack) frame (field.type ∷ []) (omega arith)
      (all_below env.world (field.owner ∷ field_guard env field) frame.stack)
  access_stands accesses.PutField field =
      left frame.stack 2 (taken env.world (field.type ∷ []) frame.stack >>= taken_for_store env field) frame
      (two_below 1 (field.type ∷ []) (taken_for_store env field) (for_store_below field))

  call_stands : (method : MethodUse) (receiver : List FrameType) → length method.result ≤ 6 → Left (called_on env method receiver frame)
  call_stands method receiver few =
      put frame.stack (length method.arguments + 1) (taken env.world method.arguments frame.stack >>= taken_as_all env.world receiver) frame method.result few
      (two_below 1 method.arguments (taken_as_all env.world receiver) (all_below env.world receiver))

  super_stands : (method : MethodUse) → length method.result ≤ 6 → Left (invoke_super env method frame)
  super_stands method few =
      chosen frame.stack (has_plain_name method && flows env.world (current_type env) method.owner && is_near env method.reference.class)
      (called_on env method (current_type env ∷ []) frame) (call_stands method (current_type env ∷ []) few)

  -- where nothing is below the arguments, nothing is constructed
  init_stands : (method : MethodUse) → slice_get frame.stack (length method.arguments) ≡ None → Left (invoke_init env method frame)
  init_stands method none =
      bound frame.stack (taken env.world method.arguments frame.stack) (construct_top env method frame)
      (λ stack e. by_stack stack (below_is frame.stack (length method.arguments) (taken env.world method.arguments frame.stack) (taken_below env.world method.arguments frame.stack) stack e))
    where
      something : {X : Type 0} (xs : List X) (n : ℕ) (x : X) (rest : List X) → x ∷ rest ≡ drop n xs → slice_get xs n ≡ Some x
      something [] zero x rest e = absurd cc
      something [] (suc n) x rest e = absurd cc
      something (y ∷ xs) zero x rest e = let one : x ≡ y = cc in ap Some (sym one)
      something (y ∷ xs) (suc n) x rest e = something xs n x rest e

      clash : {X : Type 0} (x : X) → None ≡ Some x → ⊥
      clash x e = cc

      by_stack : (stack : List FrameType) → stack ≡ drop (length method.arguments) frame.stack → Left (construct_top env method frame stack)
      by_stack [] e = tt
      by_stack (object ∷ below) e = absurd (clash object (sym none ∙ something frame.stack (length method.arguments) object below e))

  -- a method that is called, where no object is constructed
  call_of : (how : Invocation) (index : ℕ) (method : MethodUse) → method_named_by env index ≡ Some method → constructed_object env (insns.Invoke how index) frame ≡ None
      → Left (invoke env how method frame)
  call_of invocations.Virtual index method e none =
      chosen frame.stack (is_of_class method.constant && has_plain_name method) (called_on env method (method.owner ∷ method_guard env method) frame)
      (call_stands method (method.owner ∷ method_guard env method) (few_of_method env index method e))
  call_of invocations.Static index method e none =
      chosen frame.stack (has_plain_name method) (exchanged env.world method.arguments method.result frame) (exchanged_stands method.arguments method.result (few_of_method env index method e))
  call_of invocations.Special index method e none = by_name (is_init method.reference.name) refl
    where
      by_name : (b : Bool) → is_init method.reference.name ≡ b → Left (if b then invoke_init env method frame else invoke_super env method frame)
      by_name false is = super_stands method (few_of_method env index method e)
      by_name true is =
          init_stands method
          (sym (ap (λ o. o >>= λ (m : MethodUse). when (is_init m.reference.name) m >>= λ (m : MethodUse). slice_get frame.stack (length m.arguments)) e
          ∙ ap (λ b. (when b method) >>= λ (m : MethodUse). slice_get frame.stack (length m.arguments)) is) ∙ none)

  invoked_stands : (how : Invocation) (index : ℕ) → constructed_object env (insns.Invoke how index) frame ≡ None → Left (invoke_rule env how index frame)
  invoked_stands how index none =
      bound frame.stack (method_named_by env index) (λ method. when (goes_with_version env method) method >>= λ named. invoke env how named frame)
      (λ method e. by_test method (goes_with_version env method) (call_of how index method e none))
    where
      by_test : (method : MethodUse) (test : Bool) → Left (invoke env how method frame) → Left (when test method >>= λ named. invoke env how named frame)
      by_test method true h = h
      by_test method false h = tt

  interface_stands : (count index : ℕ) → Left (method_named_by env index >>= λ method. invoke_interface env count method frame)
  interface_stands count index =
      bound frame.stack (method_named_by env index) (λ method. invoke_interface env count method frame)
      (λ method e. chosen frame.stack (not (is_of_class method.constant) && has_plain_name method && counts_arguments method count) (called_on env method (method.owner ∷ []) frame)
      (call_stands method (method.owner ∷ []) (few_of_method env index method e)))

  new_stands : (pc index : ℕ) → Left (new_object env pc index frame)
  new_stands pc index =
      bound frame.stack (operand_name env index)
      (λ name. when (not (list_any (is_same_object (types.Uninitialized pc)) frame.stack))
      (pushed (with_locals frame (replaced (types.Uninitialized pc) types.Top frame.locals)) (types.Uninitialized pc)))
      (λ name e. tested frame.stack (not (list_any (is_same_object (types.Uninitialized pc)) frame.stack))
      (pushed (with_locals frame (replaced (types.Uninitialized pc) types.Top frame.locals)) (types.Uninitialized pc)) (pushed_stands (types.Uninitialized pc)))

  other_stands : (pc : ℕ) (insn : Instruction) → constructed_object env insn frame ≡ None → Left (other_rule env pc insn frame)
  other_stands pc (insns.PoolConstant index form) e = mapped frame.stack (constant_type env index) (pushed frame) (λ type is. pushed_stands type)
  other_stands pc (insns.PoolLongConstant index) e = mapped frame.stack (long_constant_type env index) (pushed frame) (λ type is. pushed_stands type)
  other_stands pc (insns.Load kind index form) e = load_stands kind index
  other_stands pc (insns.Store kind index form) e = store_stands (value_kind kind) index
  other_stands pc (insns.StoreLong index form) e = store_stands kinds.Long index
  other_stands pc (insns.Increment index value form) e = increment_stands index
  other_stands pc (insns.ArrayLoad element) e =
      put frame.stack 2 (taken env.world (types.Int ∷ []) frame.stack >>= taken_as_any env.world (number_arrays element)) frame (element_number element ∷ []) (omega arith)
      (two_below 1 (types.Int ∷ []) (taken_as_any env.world (number_arrays element)) (any_below env.world (number_arrays element)))
  other_stands pc insns.ReferenceArrayLoad e =
      bound frame.stack (taken env.world (types.Int ∷ []) frame.stack) (with_component frame)
      (λ stack is. component_stands 1 stack (below_is frame.stack 1 (taken env.world (types.Int ∷ []) frame.stack) (taken_below env.world (types.Int ∷ []) frame.stack) stack is))
  other_stands pc (insns.ArrayStore element) e =
      left frame.stack 3 (taken env.world (types.Int ∷ element_number element ∷ []) frame.stack >>= taken_as_any env.world (number_arrays element)) frame
      (two_below 1 (types.Int ∷ element_number element ∷ []) (taken_as_any env.world (number_arrays element)) (any_below env.world (number_arrays element)))
  other_stands pc (insns.Stack form) e = moved frame.stack form frame refl
  other_stands pc (insns.Branch test distance) e = test_stands test
  other_stands pc (insns.ReturnValue kind) e = return_stands kind env.descriptor.result
  other_stands pc insns.Return e = leave_stands env.descriptor.result
  other_stands pc (insns.Field access index) e =
      bound frame.stack (field_named_by env index) (λ field. access_field env access field frame) (λ field is. access_stands access field)
  other_stands pc (insns.Invoke how index) e = invoked_stands how index e
  other_stands pc (insns.InvokeInterface index count) e = interface_stands count index
  other_stands pc (insns.New index) e = new_stands pc index
  other_stands pc (insns.NewReferenceArray index) e =
      bound frame.stack (array_of_operand env index) (λ array. exchanged env.world (types.Int ∷ []) (array ∷ []) frame)
      (λ array is. exchanged_stands (types.Int ∷ []) (array ∷ []) (omega arith))
  other_stands pc (insns.NewMultiArray index dimensions) e =
      bound frame.stack (array_operand env index dimensions) (λ array. exchanged env.world (replicate dimensions types.Int) (array ∷ []) frame)
      (λ array is. exchanged_stands (replicate dimensions types.Int) (array ∷ []) (omega arith))
  other_stands pc insns.ArrayLength e = length_stands frame.stack refl
  other_stands pc (insns.CheckCast index) e =
      bound frame.stack (operand_type env index) (λ type. exchanged env.world (object_class_type ∷ []) (type ∷ []) frame)
      (λ type is. exchanged_stands (object_class_type ∷ []) (type ∷ []) (omega arith))
  other_stands pc (insns.InstanceOf index) e =
      bound frame.stack (operand_type env index) (λ type. exchanged env.world (object_class_type ∷ []) (types.Int ∷ []) frame)
      (λ type is. exchanged_stands (object_class_type ∷ []) (types.Int ∷ []) (omega arith))
  other_stands pc insns.Nop e = tt
  other_stands pc insns.NullConstant e = tt
  other_stands pc (insns.Compute what) e = tt
  other_stands pc (insns.Division kind operator) e = tt
  other_stands pc (insns.Goto distance form) e = tt
  other_stands pc (insns.TableSwitch padding default low high distances) e = tt
  other_stands pc (insns.LookupSwitch padding default pairs) e = tt
  other_stands pc insns.ReferenceArrayStore e = tt
  other_stands pc (insns.NewArray element) e = tt
  other_stands pc insns.Throw e = tt

  rule_stands : (pc : ℕ) (insn : Instruction) → constructed_object env insn frame ≡ None → Left (rule env pc insn frame)
  rule_stands pc insn none = within (effect env pc insn frame) (by_table (fixed_exchange insn) refl)
    where
      within : (o : Option Frame) → Left o → Left (o >>= within_stack env)
      within None h = tt
      within (Some left) h = tested frame.stack (nat_le (words left.stack) env.code.max_stack) left h

      by_table : (o : Option Exchange) → fixed_exchange insn ≡ o → Left (by_exchange env o (other_rule env pc insn frame) frame)
      by_table None e = other_stands pc insn none
      by_table (Some exchange) e = exchanged_stands exchange.takes exchange.gives (few_given insn exchange e)

pub leaves_below : (env : Environment) (pc : ℕ) (insn : Instruction) (before behind : Frame) → rule env pc insn before ≡ Some behind → constructed_object env insn before ≡ None
    → StandsOn before.stack behind.stack
leaves_below env pc insn before behind e none = subst (Stands before.stack) e (rule_stands env before pc insn none)
