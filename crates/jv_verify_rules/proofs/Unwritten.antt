-- What the rules of instructions leave of the local variables and the flag.
use Rattle.std.proofs.Common.{◌≡◌, ℕ, zero, suc, ◌≤◌, Bool, true, false, not, ◌&&◌, List, [], ◌∷◌, ◌++◌, length, drop, Option, Some, None, refl, ap, subst, arith, if◌then◌else◌}
use Rattle.std.specs.Prelude.{IsTrue, nat_le, replicate, slice_get}
use Rattle.std.specs.List.{list_any}
use Rattle.std.specs.Option.{option_map}
use Rattle.std.proofs.lemmas.List.{length-append, length-drop, length-map}
use Rattle.std.proofs.lemmas.Bool.{leb-true}
use Rattle.jv_format.specs.Format.{◌>>=◌}
use Rattle.jv_text.specs.Name.{is_init}
use Rattle.jv_text.specs.declared.descriptor.FieldTypeOf.{FieldTypeOf}
use Rattle.jv_stackmap.specs.declared.verification.VerificationTypeOf.TheVariants as types
use Rattle.jv_stackmap.specs.Types.{FrameType, value_type, words}
use Rattle.jv_stackmap.specs.Frames.{Frame, type_by_words}
use Rattle.jv_code.specs.Insns.{Instruction}
use Rattle.jv_code.specs.declared.insn.Insn.TheVariants as insns
use Rattle.jv_code.specs.declared.kinds.FieldAccess.{FieldAccess}
use Rattle.jv_code.specs.declared.kinds.FieldAccess.TheVariants as accesses
use Rattle.jv_code.specs.declared.kinds.Invocation.{Invocation}
use Rattle.jv_code.specs.declared.kinds.Invocation.TheVariants as invocations
use Rattle.jv_code.specs.declared.kinds.Test.{Test}
use Rattle.jv_code.specs.declared.kinds.Test.TheVariants as tests
use Rattle.jv_code.specs.declared.kinds.ValueKind.{ValueKind}
use Rattle.jv_code.specs.declared.kinds.ValueKind.TheVariants as kinds
use Rattle.jv_meaning_world.specs.Flow.{flows}
use Rattle.jv_meaning_typing.specs.Environment.{Environment}
use Rattle.jv_meaning_typing.specs.FrameChanges.{with_stack, with_locals, is_of_kind, taken, taken_as_all, taken_as_any, taken_of_kind, exchanged, item_width, stored, is_same_object, replaced}
use Rattle.jv_meaning_typing.specs.Named.{object_class_type, constant_type, long_constant_type, operand_type, operand_name, array_of_operand, array_operand, FieldUse, field_named_by, MethodUse, method_named_by, current_type, when}
use Rattle.jv_meaning_typing.specs.NumberRules.{Exchange, fixed_exchange, number_arrays, element_number}
use Rattle.jv_meaning_typing.specs.StackForms.{rearranged}
use Rattle.jv_meaning_typing.specs.ValueRules.{pushed, has_room, load, value_kind, store, increment, reference_component, with_component, array_length, take_reference, new_object, return_value, return_nothing}
use Rattle.jv_meaning_typing.specs.MemberRules.{field_guard, taken_for_store, access_field, is_of_class, has_plain_name, called_on, method_guard, counts_arguments, invoke_interface, is_near, invoke_super, constructed_type, constructed, construct_top, invoke_init, invoke, goes_with_version, invoke_rule}
use Rattle.jv_meaning_typing.specs.Rule.{test_references, other_rule, by_exchange, effect, within_stack, rule}
use Rattle.jv_verify_rules.specs.Laws.{keeps_locals}

-- ---- what holds of the local variables and the flag, whatever the stack

module _ (G : List FrameType → Bool → Type 0) where
  abbrev pub Good : Frame → Type 0
  Good frame = G frame.locals frame.flag_this_uninit

  -- of a frame that is left
  abbrev pub Leaves : Option Frame → Type 0
  Leaves None = Unit {0}
  Leaves (Some frame) = Good frame

  -- ---- how rules are made of parts

  pub bound : {A : Type 0} (o : Option A) (next : A → Option Frame) → ((a : A) → Leaves (next a)) → Leaves (o >>= next)
  bound None next h = tt
  bound (Some a) next h = h a

  chained : (o : Option Frame) (next : Frame → Option Frame) → Leaves o → ((frame : Frame) → Good frame → Leaves (next frame)) → Leaves (o >>= next)
  chained None next first h = tt
  chained (Some frame) next first h = h frame first

  mapped : {A : Type 0} (o : Option A) (f : A → Frame) → ((a : A) → Good (f a)) → Leaves (option_map f o)
  mapped None f h = tt
  mapped (Some a) f h = h a

  tested : (test : Bool) (frame : Frame) → Good frame → Leaves (when test frame)
  tested true frame h = h
  tested false frame h = tt

  chosen : (test : Bool) (o : Option Frame) → Leaves o → Leaves (if test then o else None)
  chosen true o h = h
  chosen false o h = tt

  reference_keeps : (frame : Frame) → Good frame → Leaves (take_reference frame)
  reference_keeps frame h = bound (taken_of_kind kinds.Reference frame.stack) (λ popped. Some (with_stack frame popped.1)) (λ popped. h)

  module _ (env : Environment) (frame : Frame) (h : Good frame) where
    exchanged_keeps : (expected given : List FrameType) → Leaves (exchanged env.world expected given frame)
    exchanged_keeps expected given = bound (taken env.world expected frame.stack) (λ below. Some (with_stack frame (given ++ below))) (λ below. h)

    load_keeps : (kind : ValueKind) (index : ℕ) → Leaves (load kind index frame)
    load_keeps kind index =
        bound (slice_get frame.locals index) (λ type. when (is_of_kind kind type && has_room kind index frame.locals) (pushed frame type))
        (λ type. tested (is_of_kind kind type && has_room kind index frame.locals) (pushed frame type) h)

    increment_keeps : (index : ℕ) → Leaves (increment index frame)
    increment_keeps index = bound (slice_get frame.locals index) (λ type. when (is_of_kind kinds.Int type) frame) (λ type. tested (is_of_kind kinds.Int type) frame h)

    component_keeps : (stack : List FrameType) → Leaves (with_component frame stack)
    component_keeps [] = tt
    component_keeps (array ∷ below) = mapped (reference_component array) (λ type. with_stack frame (type ∷ below)) (λ type. h)

    test_keeps : (test : Test) → Leaves (test_references test frame)
    test_keeps (tests.IfInt condition) = tt
    test_keeps (tests.IfInts condition) = tt
    test_keeps (tests.IfReferences equality) = chained (take_reference frame) take_reference (reference_keeps frame h) reference_keeps
    test_keeps (tests.IfNull equality) = reference_keeps frame h

    return_keeps : (kind : ValueKind) (result : Option (FieldTypeOf (List ℕ))) → Leaves (return_value env kind result frame)
    return_keeps kind None = tt
    return_keeps kind (Some result) =
        chosen (is_of_kind kind (value_type result)) (exchanged env.world (value_type result ∷ []) [] frame) (exchanged_keeps (value_type result ∷ []) [])

    leave_keeps : (result : Option (FieldTypeOf (List ℕ))) → Leaves (return_nothing result frame)
    leave_keeps None = tested (not frame.flag_this_uninit) frame h
    leave_keeps (Some result) = tt

    access_keeps : (access : FieldAccess) (field : FieldUse) → Leaves (access_field env access field frame)
    access_keeps accesses.GetStatic field = exchanged_keeps [] (field.type ∷ [])
    access_keeps accesses.PutStatic field = exchanged_keeps (field.type ∷ []) []
    access_keeps accesses.GetField field =
        bound (taken_as_all env.world (field.owner ∷ field_guard env field) frame.stack) (λ below. Some (with_stack frame (field.type ∷ below))) (λ below. h)
    access_keeps accesses.PutField field =
        bound (taken env.world (field.type ∷ []) frame.stack >>= taken_for_store env field) (λ below. Some (with_stack frame below)) (λ below. h)

    call_keeps : (method : MethodUse) (receiver : List FrameType) → Leaves (called_on env method receiver frame)
    call_keeps method receiver =
        bound (taken env.world method.arguments frame.stack >>= taken_as_all env.world receiver) (λ below. Some (with_stack frame (method.result ++ below))) (λ below. h)

    super_keeps : (method : MethodUse) → Leaves (invoke_super env method frame)
    super_keeps method =
        chosen (has_plain_name method && flows env.world (current_type env) method.owner && is_near env method.reference.class)
        (called_on env method (current_type env ∷ []) frame) (call_keeps method (current_type env ∷ []))

    virtual_keeps : (method : MethodUse) → Leaves (invoke env invocations.Virtual method frame)
    virtual_keeps method =
        chosen (is_of_class method.constant && has_plain_name method) (called_on env method (method.owner ∷ method_guard env method) frame)
        (call_keeps method (method.owner ∷ method_guard env method))

    static_keeps : (method : MethodUse) → Leaves (invoke env invocations.Static method frame)
    static_keeps method = chosen (has_plain_name method) (exchanged env.world method.arguments method.result frame) (exchanged_keeps method.arguments method.result)

    invoked_keeps : (how : Invocation) (index : ℕ) → ((method : MethodUse) → Leaves (invoke env how method frame)) → Leaves (invoke_rule env how index frame)
    invoked_keeps how index keeps =
        bound (method_named_by env index) (λ method. when (goes_with_version env method) method >>= λ named. invoke env how named frame)
        (λ method. bound (when (goes_with_version env method) method) (λ named. invoke env how named frame) keeps)

    interface_keeps : (count : ℕ) (method : MethodUse) → Leaves (invoke_interface env count method frame)
    interface_keeps count method =
        chosen (not (is_of_class method.constant) && has_plain_name method && counts_arguments method count) (called_on env method (method.owner ∷ []) frame)
        (call_keeps method (method.owner ∷ []))

    -- an instruction that is not in the table of fixed types, and writes no local variable
    pub other_keeps : (pc : ℕ) (insn : Instruction) → keeps_locals insn ≡ true → Leaves (other_rule env pc insn frame)
    other_keeps pc (insns.PoolConstant index form) e = mapped (constant_type env index) (pushed frame) (λ type. h)
    other_keeps pc (insns.PoolLongConstant index) e = mapped (long_constant_type env index) (pushed frame) (λ type. h)
    other_keeps pc (insns.Load kind index form) e = load_keeps kind index
    other_keeps pc (insns.Store kind index form) e = absurd cc
    other_keeps pc (insns.StoreLong index form) e = absurd cc
    other_keeps pc (insns.Increment index value form) e = increment_keeps index
    other_keeps pc (insns.ArrayLoad element) e =
        bound (taken env.world (types.Int ∷ []) frame.stack >>= taken_as_any env.world (number_arrays element)) (λ below. Some (with_stack frame (element_number element ∷ below))) (λ below. h)
    other_keeps pc insns.ReferenceArrayLoad e = bound (taken env.world (types.Int ∷ []) frame.stack) (with_component frame) component_keeps
    other_keeps pc (insns.ArrayStore element) e =
        bound (taken env.world (types.Int ∷ element_number element ∷ []) frame.stack >>= taken_as_any env.world (number_arrays element)) (λ below. Some (with_stack frame below)) (λ below. h)
    other_keeps pc (insns.Stack form) e = mapped (rearranged item_width form frame.stack) (with_stack frame) (λ stack. h)
    other_keeps pc (insns.Branch test distance) e = test_keeps test
    other_keeps pc (insns.ReturnValue kind) e = return_keeps kind env.descriptor.result
    other_keeps pc insns.Return e = leave_keeps env.descriptor.result
    other_keeps pc (insns.Field access index) e = bound (field_named_by env index) (λ field. access_field env access field frame) (access_keeps access)
    other_keeps pc (insns.Invoke invocations.Virtual index) e = invoked_keeps invocations.Virtual index virtual_keeps
    other_keeps pc (insns.Invoke invocations.Special index) e = absurd cc
    other_keeps pc (insns.Invoke invocations.Static index) e = invoked_keeps invocations.Static index static_keeps
    other_keeps pc (insns.InvokeInterface index count) e = bound (method_named_by env index) (λ method. invoke_interface env count method frame) (interface_keeps count)
    other_keeps pc (insns.New index) e = absurd cc
    other_keeps pc (insns.NewReferenceArray index) e =
        bound (array_of_operand env index) (λ array. exchanged env.world (types.Int ∷ []) (array ∷ []) frame) (λ array. exchanged_keeps (types.Int ∷ []) (array ∷ []))
    other_keeps pc (insns.NewMultiArray index dimensions) e =
        bound (array_operand env index dimensions) (λ array. exchanged env.world (replicate dimensions types.Int) (array ∷ []) frame)
        (λ array. exchanged_keeps (replicate dimensions types.Int) (array ∷ []))
    other_keeps pc insns.ArrayLength e = mapped (array_length frame.stack) (with_stack frame) (λ stack. h)
    other_keeps pc (insns.CheckCast index) e =
        bound (operand_type env index) (λ type. exchanged env.world (object_class_type ∷ []) (type ∷ []) frame) (λ type. exchanged_keeps (object_class_type ∷ []) (type ∷ []))
    other_keeps pc (insns.InstanceOf index) e =
        bound (operand_type env index) (λ type. exchanged env.world (object_class_type ∷ []) (types.Int ∷ []) frame) (λ type. exchanged_keeps (object_class_type ∷ []) (types.Int ∷ []))
    other_keeps pc insns.Nop e = tt
    other_keeps pc insns.NullConstant e = tt
    other_keeps pc (insns.Compute what) e = tt
    other_keeps pc (insns.Division kind operator) e = tt
    other_keeps pc (insns.Goto distance form) e = tt
    other_keeps pc (insns.TableSwitch padding default low high distances) e = tt
    other_keeps pc (insns.LookupSwitch padding default pairs) e = tt
    other_keeps pc insns.ReferenceArrayStore e = tt
    other_keeps pc (insns.NewArray element) e = tt
    other_keeps pc insns.Throw e = tt

    -- the rule, where that of the instructions that are not in the table keeps them
    pub rule_keeps : (pc : ℕ) (insn : Instruction) → Leaves (other_rule env pc insn frame) → Leaves (rule env pc insn frame)
    rule_keeps pc insn other =
        chained (effect env pc insn frame) (within_stack env) (by_table (fixed_exchange insn))
        (λ left good. tested (nat_le (words left.stack) env.code.max_stack) left good)
      where
        by_table : (o : Option Exchange) → Leaves (by_exchange env o (other_rule env pc insn frame) frame)
        by_table None = other
        by_table (Some exchange) = exchanged_keeps exchange.takes exchange.gives

-- ---- instructions that write no local variable

abbrev Same : Frame → List FrameType → Bool → Type 0
Same before locals flag = (locals ≡ before.locals) × (flag ≡ before.flag_this_uninit)

pub locals_are_kept : (env : Environment) (pc : ℕ) (insn : Instruction) (before behind : Frame) → IsTrue (keeps_locals insn) → rule env pc insn before ≡ Some behind
    → (behind.locals ≡ before.locals) × (behind.flag_this_uninit ≡ before.flag_this_uninit)
locals_are_kept env pc insn before behind keeps e =
    subst (Leaves (Same before)) e
    (rule_keeps (Same before) env before (refl, refl) pc insn (other_keeps (Same before) env before (refl, refl) pc insn keeps))

-- ---- how many local variables there are

-- so many are left, if any
abbrev AreLeft : ℕ → Option (List FrameType) → Type 0
AreLeft n None = Unit {0}
AreLeft n (Some locals) = length locals ≡ n

one_more : (n : ℕ) (type : FrameType) (o : Option (List FrameType)) → AreLeft n o → AreLeft (suc n) (option_map (λ rest. type ∷ rest) o)
one_more n type None h = tt
one_more n type (Some locals) h = ap suc h

stored_first : (words locals : List FrameType) → AreLeft (length locals) (stored words zero locals)
stored_first words locals = by_test (nat_le (length words) (length locals)) refl
  where
    by_test : (test : Bool) → nat_le (length words) (length locals) ≡ test → AreLeft (length locals) (if test then Some (words ++ drop (length words) locals) else None)
    by_test true e =
        let room : length words ≤ length locals = leb-true (length words) (length locals) e in
        omega (arith, room, length-append words (drop (length words) locals), length-drop (length words) locals)
    by_test false e = tt

stored_keeps : (words : List FrameType) (index : ℕ) (locals : List FrameType) → AreLeft (length locals) (stored words index locals)
stored_keeps words zero locals = stored_first words locals
stored_keeps words (suc index) [] = tt
stored_keeps words (suc zero) (types.Top ∷ more) = one_more (length more) types.Top (stored words zero more) (stored_first words more)
stored_keeps words (suc zero) (types.Int ∷ more) = one_more (length more) types.Int (stored words zero more) (stored_first words more)
stored_keeps words (suc zero) (types.Long ∷ more) = one_more (length more) types.Top (stored words zero more) (stored_first words more)
stored_keeps words (suc zero) (types.Null ∷ more) = one_more (length more) types.Null (stored words zero more) (stored_first words more)
stored_keeps words (suc zero) (types.UninitializedThis ∷ more) = one_more (length more) types.UninitializedThis (stored words zero more) (stored_first words more)
stored_keeps words (suc zero) (types.Class name ∷ more) = one_more (length more) (types.Class name) (stored words zero more) (stored_first words more)
stored_keeps words (suc zero) (types.Array components ∷ more) = one_more (length more) (types.Array components) (stored words zero more) (stored_first words more)
stored_keeps words (suc zero) (types.Uninitialized offset ∷ more) = one_more (length more) (types.Uninitialized offset) (stored words zero more) (stored_first words more)
stored_keeps words (suc (suc index)) (local ∷ more) = one_more (length more) local (stored words (suc index) more) (stored_keeps words (suc index) more)

module _ (env : Environment) (frame : Frame) where
  abbrev Count : List FrameType → Bool → Type 0
  Count locals flag = length locals ≡ length frame.locals

  with_stored : (into : Frame) (o : Option (List FrameType)) → AreLeft (length frame.locals) o → Leaves Count (o >>= λ locals. Some (with_locals into locals))
  with_stored into None h = tt
  with_stored into (Some locals) h = h

  store_keeps : (kind : ValueKind) (index : ℕ) → Leaves Count (store kind index frame)
  store_keeps kind index =
      bound Count (taken_of_kind kind frame.stack)
      (λ popped. stored (type_by_words popped.0) index frame.locals >>= λ locals. Some (with_locals (with_stack frame popped.1) locals))
      (λ popped. with_stored (with_stack frame popped.1) (stored (type_by_words popped.0) index frame.locals) (stored_keeps (type_by_words popped.0) index frame.locals))

  replaced_length : (object type : FrameType) (list : List FrameType) → length (replaced object type list) ≡ length list
  replaced_length object type list = length-map list (λ t. if is_same_object object t then type else t)

  abbrev is_there : ℕ → Bool
  is_there pc = list_any (is_same_object (types.Uninitialized pc)) frame.stack

  abbrev fresh : ℕ → Frame
  fresh pc = pushed (with_locals frame (replaced (types.Uninitialized pc) types.Top frame.locals)) (types.Uninitialized pc)

  new_keeps : (pc index : ℕ) → Leaves Count (new_object env pc index frame)
  new_keeps pc index = bound Count (operand_name env index) (λ name. when (not (is_there pc)) (fresh pc))
      (λ name. tested Count (not (is_there pc)) (fresh pc) (replaced_length (types.Uninitialized pc) types.Top frame.locals))

  construct_keeps : (method : MethodUse) (stack : List FrameType) → Leaves Count (construct_top env method frame stack)
  construct_keeps method [] = tt
  construct_keeps method (object ∷ below) =
      mapped Count (constructed_type env method object) (λ type. constructed frame object type below) (λ type. replaced_length object type frame.locals)

  special_keeps : (method : MethodUse) → Leaves Count (invoke env invocations.Special method frame)
  special_keeps method = by_name (is_init method.reference.name)
    where
      by_name : (b : Bool) → Leaves Count (if b then invoke_init env method frame else invoke_super env method frame)
      by_name true = bound Count (taken env.world method.arguments frame.stack) (construct_top env method frame) (construct_keeps method)
      by_name false = super_keeps Count env frame refl method

  writer_keeps : (pc : ℕ) (insn : Instruction) → keeps_locals insn ≡ false → Leaves Count (other_rule env pc insn frame)
  writer_keeps pc (insns.Store kind index form) e = store_keeps (value_kind kind) index
  writer_keeps pc (insns.StoreLong index form) e = store_keeps kinds.Long index
  writer_keeps pc (insns.New index) e = new_keeps pc index
  writer_keeps pc (insns.Invoke invocations.Special index) e = invoked_keeps Count env frame refl invocations.Special index special_keeps
  writer_keeps pc (insns.PoolConstant index form) e = absurd cc
  writer_keeps pc (insns.PoolLongConstant index) e = absurd cc
  writer_keeps pc (insns.Load kind index form) e = absurd cc
  writer_keeps pc (insns.Increment index value form) e = absurd cc
  writer_keeps pc (insns.ArrayLoad element) e = absurd cc
  writer_keeps pc insns.ReferenceArrayLoad e = absurd cc
  writer_keeps pc (insns.ArrayStore element) e = absurd cc
  writer_keeps pc (insns.Stack form) e = absurd cc
  writer_keeps pc (insns.Branch test distance) e = absurd cc
  writer_keeps pc (insns.ReturnValue kind) e = absurd cc
  writer_keeps pc insns.Return e = absurd cc
  writer_keeps pc (insns.Field access index) e = absurd cc
  writer_keeps pc (insns.Invoke invocations.Virtual index) e = absurd cc
  writer_keeps pc (insns.Invoke invocations.Static index) e = absurd cc
  writer_keeps pc (insns.InvokeInterface index count) e = absurd cc
  writer_keeps pc (insns.NewReferenceArray index) e = absurd cc
  writer_keeps pc (insns.NewMultiArray index dimensions) e = absurd cc
  writer_keeps pc insns.ArrayLength e = absurd cc
  writer_keeps pc (insns.CheckCast index) e = absurd cc
  writer_keeps pc (insns.InstanceOf index) e = absurd cc
  writer_keeps pc insns.Nop e = absurd cc
  writer_keeps pc insns.NullConstant e = absurd cc
  writer_keeps pc (insns.Compute what) e = absurd cc
  writer_keeps pc (insns.Division kind operator) e = absurd cc
  writer_keeps pc (insns.Goto distance form) e = absurd cc
  writer_keeps pc (insns.TableSwitch padding default low high distances) e = absurd cc
  writer_keeps pc (insns.LookupSwitch padding default pairs) e = absurd cc
  writer_keeps pc insns.ReferenceArrayStore e = absurd cc
  writer_keeps pc (insns.NewArray element) e = absurd cc
  writer_keeps pc insns.Throw e = absurd cc

  all_keep : (pc : ℕ) (insn : Instruction) → Leaves Count (rule env pc insn frame)
  all_keep pc insn = rule_keeps Count env frame refl pc insn (by_writer (keeps_locals insn) refl)
    where
      by_writer : (b : Bool) → keeps_locals insn ≡ b → Leaves Count (other_rule env pc insn frame)
      by_writer true e = other_keeps Count env frame refl pc insn e
      by_writer false e = writer_keeps pc insn e

pub keeps_local_count : (env : Environment) (pc : ℕ) (insn : Instruction) (before behind : Frame) → rule env pc insn before ≡ Some behind → length behind.locals ≡ length before.locals
keeps_local_count env pc insn before behind e = subst (Leaves (Count env before)) e (all_keep env before pc insn)
