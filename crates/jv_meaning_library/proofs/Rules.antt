-- The rule of each instruction (JVMS 4.10.1.9) gives the same in two worlds with the same answers, and a frame of known types of one.
use Rattle.std.proofs.Common.{◌≡◌, ℕ, Bool, true, false, ◌&&◌, ◌||◌, not, List, [], ◌∷◌, ◌++◌, replicate, Option, Some, None, refl, ap, ◌∙◌, codes}
use Rattle.std.specs.Prelude.{IfSome, IsTrue, if◌then◌else◌, nat_le, slice_get}
use Rattle.std.specs.List.{list_all, list_any}
use Rattle.std.specs.Option.{option_map}
use Rattle.std.specs.Str.{bytes_eq}
use Rattle.jv_format.specs.Format.{◌>>=◌}
use Rattle.jv_text.specs.declared.descriptor.FieldTypeOf.{FieldTypeOf}
use Rattle.jv_text.specs.Name.{is_init}
use Rattle.jv_pool.specs.declared.constant.Constant.TheVariants as constants
use Rattle.jv_pool.specs.Constants.{Entry}
use Rattle.jv_stackmap.specs.declared.verification.VerificationTypeOf.TheVariants as types
use Rattle.jv_stackmap.specs.Types.{FrameType, value_type, words}
use Rattle.jv_stackmap.specs.Frames.{Frame, type_by_words}
use Rattle.jv_code.specs.Insns.{Instruction}
use Rattle.jv_code.specs.declared.insn.Insn.TheVariants as insns
use Rattle.jv_code.specs.declared.kinds.Computation.{Computation}
use Rattle.jv_code.specs.declared.kinds.Computation.TheVariants as compute
use Rattle.jv_code.specs.declared.kinds.Conversion.{Conversion}
use Rattle.jv_code.specs.declared.kinds.Conversion.TheVariants as conversions
use Rattle.jv_code.specs.declared.kinds.ElementType.{ElementType}
use Rattle.jv_code.specs.declared.kinds.ElementType.TheVariants as element_types
use Rattle.jv_code.specs.declared.kinds.FieldAccess.{FieldAccess}
use Rattle.jv_code.specs.declared.kinds.FieldAccess.TheVariants as access
use Rattle.jv_code.specs.declared.kinds.Invocation.{Invocation}
use Rattle.jv_code.specs.declared.kinds.Invocation.TheVariants as invocations
use Rattle.jv_code.specs.declared.kinds.NumberElement.{NumberElement}
use Rattle.jv_code.specs.declared.kinds.NumberElement.TheVariants as numbers
use Rattle.jv_code.specs.declared.kinds.NumberKind.{NumberKind}
use Rattle.jv_code.specs.declared.kinds.NumberKind.TheVariants as number_kinds
use Rattle.jv_code.specs.declared.kinds.StackForm.{StackForm}
use Rattle.jv_code.specs.declared.kinds.Test.{Test}
use Rattle.jv_code.specs.declared.kinds.Test.TheVariants as tests
use Rattle.jv_code.specs.declared.kinds.ValueKind.{ValueKind}
use Rattle.jv_code.specs.declared.kinds.ValueKind.TheVariants as kinds
use Rattle.jv_meaning_world.specs.World.{World}
use Rattle.jv_meaning_world.specs.Flow.{flows}
use Rattle.jv_meaning_typing.specs.Environment.{Environment, current_class, instruction_at}
use Rattle.jv_meaning_typing.specs.FrameChanges.{with_stack, with_locals, is_reference, is_of_kind, taken, taken_as_all, taken_as_any, taken_of_kind, exchanged, item_width, stored, is_same_object, replaced}
use Rattle.jv_meaning_typing.specs.StackForms.{rearranged}
use Rattle.jv_meaning_typing.specs.Named.{constant_type, long_constant_type, long_constant_type_of, operand_type, operand_name, array_of_operand, array_operand, when, FieldUse, field_named_by, MethodUse, method_named_by, current_type, guard, is_guarded_field, is_guarded_method, object_class_type}
use Rattle.jv_meaning_typing.specs.NumberRules.{Exchange, number_type, conversion, computation, number_arrays, element_number, new_array_type, test, fixed_exchange}
use Rattle.jv_meaning_typing.specs.ValueRules.{pushed, has_room, load, value_kind, store, increment, array_load, array_store, reference_component, with_component, reference_array_load, array_length, is_array_or_null, move_words, take_reference, new_object, return_value, return_nothing, push_constant, push_long_constant}
use Rattle.jv_meaning_typing.specs.MemberRules.{field_guard, get_field, sets_own_field, taken_for_store, put_field, access_field, field_rule, has_plain_name, called_on, is_of_class, method_guard, invoke_virtual, invoke_static, counts_arguments, invoke_interface, is_direct_interface, is_interface_named, is_near, invoke_super, class_of_new, is_that_name, constructs_new, constructs_this, constructed_type, constructed, construct_top, invoke_init, invoke_special, invoke, goes_with_version, invoke_rule, invoke_interface_rule}
use Rattle.jv_meaning_typing.specs.Rule.{test_references, other_rule, by_exchange, effect, within_stack, rule, constructed_object, without_object, handler_frame}
use Rattle.jv_meaning_library.proofs.Answers.{KnownType, Answers}
use Rattle.jv_meaning_library.proofs.Steps.{SameIf, nothing, given, one_of, passed, chosen, bound, mapped, each_appended, each_repeated, each_got, all_alike}
use Rattle.jv_meaning_library.proofs.Frames.{AllKnown, KnownFrame, stack_known, stored_known, words_known, KnownPopped, popped_known, replaced_known, rearranged_known, all_taken, any_taken, are_taken, are_exchanged}
use Rattle.jv_meaning_library.proofs.Operands.{if_bound, if_mapped, if_when, KnownField, KnownMethod, value_known, NamesKnown, KnownFieldUse, KnownMethodUse, operand_known, array_of_known, array_known, field_use_known, method_use_known, constant_known}

-- the same method, in a world
abbrev pub in_world : World → Environment → Environment
in_world world env = record env { world = world }

-- what names a method's code has beside its class's constants
pub record KnownEnvironment (known : List ℕ → Bool) (env : Environment) : Type 0 where
  pub names : NamesKnown known (current_class env)
  pub descriptor : KnownMethod known env.descriptor
  pub object : IsTrue (known (codes "java/lang/Object"))
  pub string : IsTrue (known (codes "java/lang/String"))
  pub throwable : IsTrue (known (codes "java/lang/Throwable"))

then_same : {A : Type 0} (P : A → Type 0) (one other third : Option A) → SameIf P one other → other ≡ third → SameIf P one third
then_same P one other third s e = record { same = s.same ∙ e; has = s.has }

-- ---- what no world is asked for

module _ (known : List ℕ → Bool) where
  pushed_known : (frame : Frame) (type : FrameType) → KnownFrame known frame → KnownType known type → KnownFrame known (pushed frame type)
  pushed_known frame type f k = record { locals = f.locals; stack = (k, f.stack) }

  loaded : (kind : ValueKind) (index : ℕ) (frame : Frame) → KnownFrame known frame → IfSome (load kind index frame) (KnownFrame known)
  loaded kind index frame f =
      if_bound (KnownType known) (KnownFrame known) (slice_get frame.locals index) _ (each_got (KnownType known) frame.locals index f.locals)
      (λ type k. if_when (KnownFrame known) (is_of_kind kind type && has_room kind index frame.locals) (pushed frame type) (pushed_known frame type f k))

  kept : (kind : ValueKind) (index : ℕ) (frame : Frame) → KnownFrame known frame → IfSome (store kind index frame) (KnownFrame known)
  kept kind index frame f =
      if_bound (KnownPopped known) (KnownFrame known) (taken_of_kind kind frame.stack) _ (popped_known known kind frame.stack f.stack)
      (λ popped p. if_bound (AllKnown known) (KnownFrame known) (stored (type_by_words popped.0) index frame.locals) _
      (stored_known known (type_by_words popped.0) index frame.locals (words_known known popped.0 p.item) f.locals)
      (λ locals k. record { locals = k; stack = p.below }))

  incremented : (index : ℕ) (frame : Frame) → KnownFrame known frame → IfSome (increment index frame) (KnownFrame known)
  incremented index frame f =
      if_bound (KnownType known) (KnownFrame known) (slice_get frame.locals index) _ (each_got (KnownType known) frame.locals index f.locals)
      (λ type k. if_when (KnownFrame known) (is_of_kind kinds.Int type) frame f)

  component_known : (type : FrameType) → KnownType known type → IfSome (reference_component type) (KnownType known)
  component_known types.Null k = tt
  component_known (types.Array components) k =
      if_when (KnownType known) (is_reference (value_type components)) (value_type components) (value_known known components k)
  component_known type k = tt

  with_component_known : (frame : Frame) (stack : List FrameType) → KnownFrame known frame → AllKnown known stack
      → IfSome (with_component frame stack) (KnownFrame known)
  with_component_known frame [] f k = tt
  with_component_known frame (array ∷ below) f k =
      if_mapped (KnownType known) (KnownFrame known) (reference_component array) (λ type. with_stack frame (type ∷ below)) (component_known array k.0)
      (λ type j. stack_known known frame (type ∷ below) f (j, k.1))

  length_known : (stack : List FrameType) → AllKnown known stack → IfSome (array_length stack) (AllKnown known)
  length_known [] k = tt
  length_known (array ∷ below) k = if_when (AllKnown known) (is_array_or_null array) (types.Int ∷ below) (tt, k.1)

  moved : (form : StackForm) (frame : Frame) → KnownFrame known frame → IfSome (move_words form frame) (KnownFrame known)
  moved form frame f =
      if_mapped (AllKnown known) (KnownFrame known) (rearranged item_width form frame.stack) (with_stack frame) (rearranged_known known form frame.stack f.stack)
      (λ stack k. stack_known known frame stack f k)

  reference_taken : (frame : Frame) → KnownFrame known frame → IfSome (take_reference frame) (KnownFrame known)
  reference_taken frame f =
      if_bound (KnownPopped known) (KnownFrame known) (taken_of_kind kinds.Reference frame.stack) _ (popped_known known kinds.Reference frame.stack f.stack)
      (λ popped p. stack_known known frame popped.1 f p.below)

  references_tested : (t : Test) (frame : Frame) → KnownFrame known frame → IfSome (test_references t frame) (KnownFrame known)
  references_tested (tests.IfReferences equality) frame f =
      if_bound (KnownFrame known) (KnownFrame known) (take_reference frame) take_reference (reference_taken frame f) reference_taken
  references_tested (tests.IfNull equality) frame f = reference_taken frame f
  references_tested t frame f = tt

  nothing_returned : (o : Option (FieldTypeOf (List ℕ))) (frame : Frame) → KnownFrame known frame → IfSome (return_nothing o frame) (KnownFrame known)
  nothing_returned None frame f = if_when (KnownFrame known) (not frame.flag_this_uninit) frame f
  nothing_returned (Some result) frame f = tt

  long_known : (o : Option Entry) → IfSome (long_constant_type_of o) (KnownType known)
  long_known (Some (constants.Long high low)) = tt
  long_known o = tt

  -- ---- the table of fixed types

  record KnownExchange (e : Exchange) : Type 0 where
    takes : AllKnown known e.takes
    gives : AllKnown known e.gives

  number_known : (kind : NumberKind) → KnownType known (number_type kind)
  number_known number_kinds.Int = tt
  number_known number_kinds.Long = tt

  none_known : KnownExchange (record { takes = []; gives = [] })
  none_known = record { takes = tt; gives = tt }

  conversion_known : (c : Conversion) → KnownExchange (conversion c)
  conversion_known conversions.IntToLong = record { takes = (tt, tt); gives = (tt, tt) }
  conversion_known conversions.LongToInt = record { takes = (tt, tt); gives = (tt, tt) }
  conversion_known conversions.IntToByte = record { takes = (tt, tt); gives = (tt, tt) }
  conversion_known conversions.IntToChar = record { takes = (tt, tt); gives = (tt, tt) }
  conversion_known conversions.IntToShort = record { takes = (tt, tt); gives = (tt, tt) }

  computation_known : (c : Computation) → KnownExchange (computation c)
  computation_known (compute.IntConstant value form) = record { takes = tt; gives = (tt, tt) }
  computation_known (compute.LongConstant value) = record { takes = tt; gives = (tt, tt) }
  computation_known (compute.Arithmetic kind operator) = record { takes = (number_known kind, (number_known kind, tt)); gives = (number_known kind, tt) }
  computation_known (compute.Negate kind) = record { takes = (number_known kind, tt); gives = (number_known kind, tt) }
  computation_known (compute.Shift kind operator) = record { takes = (number_known kind, (tt, tt)); gives = (number_known kind, tt) }
  computation_known (compute.Convert conversion_kind) = conversion_known conversion_kind
  computation_known compute.CompareLongs = record { takes = (tt, (tt, tt)); gives = (tt, tt) }

  test_known : (t : Test) → IfSome (test t) KnownExchange
  test_known (tests.IfInt condition) = record { takes = (tt, tt); gives = tt }
  test_known (tests.IfInts condition) = record { takes = (tt, (tt, tt)); gives = tt }
  test_known t = tt

  new_array_known : (e : ElementType) → KnownType known (new_array_type e)
  new_array_known element_types.Boolean = tt
  new_array_known element_types.Char = tt
  new_array_known element_types.Byte = tt
  new_array_known element_types.Short = tt
  new_array_known element_types.Int = tt
  new_array_known element_types.Long = tt

  number_arrays_known : (e : NumberElement) → AllKnown known (number_arrays e)
  number_arrays_known numbers.Int = (tt, tt)
  number_arrays_known numbers.Long = (tt, tt)
  number_arrays_known numbers.ByteOrBoolean = (tt, (tt, tt))
  number_arrays_known numbers.Char = (tt, tt)
  number_arrays_known numbers.Short = (tt, tt)

  element_known : (e : NumberElement) → KnownType known (element_number e)
  element_known numbers.Long = tt
  element_known numbers.Int = tt
  element_known numbers.ByteOrBoolean = tt
  element_known numbers.Char = tt
  element_known numbers.Short = tt

  fixed_known : IsTrue (known (codes "java/lang/Object")) → IsTrue (known (codes "java/lang/Throwable")) → (insn : Instruction)
      → IfSome (fixed_exchange insn) KnownExchange
  fixed_known object throwable insns.Nop = record { takes = tt; gives = tt }
  fixed_known object throwable insns.NullConstant = record { takes = tt; gives = (tt, tt) }
  fixed_known object throwable (insns.Compute what) = computation_known what
  fixed_known object throwable (insns.Division kind operator) =
      record { takes = (number_known kind, (number_known kind, tt)); gives = (number_known kind, tt) }
  fixed_known object throwable (insns.Branch condition distance) = test_known condition
  fixed_known object throwable (insns.Goto distance form) = record { takes = tt; gives = tt }
  fixed_known object throwable (insns.TableSwitch padding default low high distances) = record { takes = (tt, tt); gives = tt }
  fixed_known object throwable (insns.LookupSwitch padding default pairs) = record { takes = (tt, tt); gives = tt }
  fixed_known object throwable insns.ReferenceArrayStore = record { takes = (object, (tt, (object, tt))); gives = tt }
  fixed_known object throwable (insns.NewArray element) = record { takes = (tt, tt); gives = (new_array_known element, tt) }
  fixed_known object throwable insns.Throw = record { takes = (throwable, tt); gives = tt }
  fixed_known object throwable insn = tt

-- ---- in two worlds

module _ (known : List ℕ → Bool) (w : World) (env : Environment) (answers : Answers known env.world w env.site.by) (k : KnownEnvironment known env) where
  abbrev Same : Option Frame → Option Frame → Type 0
  Same one other = SameIf (KnownFrame known) one other

  abbrev v : World
  v = env.world

  current_known : KnownType known (current_type env)
  current_known = k.names.own

  as_it_is : (o : Option Frame) → IfSome o (KnownFrame known) → Same o o
  as_it_is o h = one_of (KnownFrame known) o h

  -- ---- fields and arrays

  array_loaded : (element : NumberElement) (frame : Frame) → KnownFrame known frame → Same (array_load v element frame) (array_load w element frame)
  array_loaded element frame f =
      bound (AllKnown known) (KnownFrame known) (λ below. Some (with_stack frame (element_number element ∷ below))) (λ below. Some (with_stack frame (element_number element ∷ below)))
      (taken v (types.Int ∷ []) frame.stack >>= taken_as_any v (number_arrays element)) (taken w (types.Int ∷ []) frame.stack >>= taken_as_any w (number_arrays element))
      (bound (AllKnown known) (AllKnown known) (taken_as_any v (number_arrays element)) (taken_as_any w (number_arrays element))
      (taken v (types.Int ∷ []) frame.stack) (taken w (types.Int ∷ []) frame.stack) (are_taken known v w answers.flow (types.Int ∷ []) frame.stack (tt, tt) f.stack)
      (λ stack h. any_taken known v w answers.flow (number_arrays element) stack (number_arrays_known known element) h))
      (λ below h. given (KnownFrame known) (with_stack frame (element_number element ∷ below)) (stack_known known frame (element_number element ∷ below) f (element_known known element, h)))

  array_stored : (element : NumberElement) (frame : Frame) → KnownFrame known frame → Same (array_store v element frame) (array_store w element frame)
  array_stored element frame f =
      bound (AllKnown known) (KnownFrame known) (λ below. Some (with_stack frame below)) (λ below. Some (with_stack frame below))
      (taken v (types.Int ∷ element_number element ∷ []) frame.stack >>= taken_as_any v (number_arrays element))
      (taken w (types.Int ∷ element_number element ∷ []) frame.stack >>= taken_as_any w (number_arrays element))
      (bound (AllKnown known) (AllKnown known) (taken_as_any v (number_arrays element)) (taken_as_any w (number_arrays element))
      (taken v (types.Int ∷ element_number element ∷ []) frame.stack) (taken w (types.Int ∷ element_number element ∷ []) frame.stack)
      (are_taken known v w answers.flow (types.Int ∷ element_number element ∷ []) frame.stack (tt, (element_known known element, tt)) f.stack)
      (λ stack h. any_taken known v w answers.flow (number_arrays element) stack (number_arrays_known known element) h))
      (λ below h. given (KnownFrame known) (with_stack frame below) (stack_known known frame below f h))

  reference_loaded : (frame : Frame) → KnownFrame known frame → Same (reference_array_load v frame) (reference_array_load w frame)
  reference_loaded frame f =
      bound (AllKnown known) (KnownFrame known) (with_component frame) (with_component frame) (taken v (types.Int ∷ []) frame.stack) (taken w (types.Int ∷ []) frame.stack)
      (are_taken known v w answers.flow (types.Int ∷ []) frame.stack (tt, tt) f.stack)
      (λ stack h. as_it_is (with_component frame stack) (with_component_known known frame stack f h))

  -- an array or another type that is named is put where these are taken
  exchanged_for : (o : Option FrameType) → IfSome o (KnownType known) → (expected : List FrameType) → AllKnown known expected → (gives : FrameType → List FrameType)
      → ((t : FrameType) → KnownType known t → AllKnown known (gives t)) → (frame : Frame) → KnownFrame known frame
      → Same (o >>= λ t. exchanged v expected (gives t) frame) (o >>= λ t. exchanged w expected (gives t) frame)
  exchanged_for o h expected e gives g frame f =
      bound (KnownType known) (KnownFrame known) (λ t. exchanged v expected (gives t) frame) (λ t. exchanged w expected (gives t) frame) o o (one_of (KnownType known) o h)
      (λ t j. are_exchanged known v w answers.flow expected (gives t) frame e (g t j) f)

  returned : (kind : ValueKind) (o : Option (FieldTypeOf (List ℕ))) → IfSome o (KnownField known) → (frame : Frame) → KnownFrame known frame
      → Same (return_value env kind o frame) (return_value (in_world w env) kind o frame)
  returned kind None h frame f = nothing (KnownFrame known)
  returned kind (Some result) h frame f =
      chosen (KnownFrame known) (is_of_kind kind (value_type result)) (is_of_kind kind (value_type result)) (exchanged v (value_type result ∷ []) [] frame)
      (exchanged w (value_type result ∷ []) [] frame) refl
      (λ e. are_exchanged known v w answers.flow (value_type result ∷ []) [] frame (value_known known result h, tt) tt f)

  created : (pc index : ℕ) (frame : Frame) → KnownFrame known frame → IfSome (new_object env pc index frame) (KnownFrame known)
  created pc index frame f = by_name (operand_name env index)
    where
      by_name : (o : Option (List ℕ)) → IfSome (o >>= λ name. when (not (list_any (is_same_object (types.Uninitialized pc)) frame.stack))
          (pushed (with_locals frame (replaced (types.Uninitialized pc) types.Top frame.locals)) (types.Uninitialized pc))) (KnownFrame known)
      by_name None = tt
      by_name (Some name) =
          if_when (KnownFrame known) (not (list_any (is_same_object (types.Uninitialized pc)) frame.stack))
          (pushed (with_locals frame (replaced (types.Uninitialized pc) types.Top frame.locals)) (types.Uninitialized pc))
          (record { locals = replaced_known known (types.Uninitialized pc) types.Top frame.locals tt f.locals; stack = (tt, f.stack) })

  guard_known : (guarded : Bool) → AllKnown known (guard env guarded)
  guard_known true = (current_known, tt)
  guard_known false = tt

  field_guard_same : (field : FieldUse) → KnownFieldUse known field → field_guard env field ≡ field_guard (in_world w env) field
  field_guard_same field u = ap (guard env) (answers.guarded_field field.reference u.class)

  method_guard_same : (method : MethodUse) → KnownMethodUse known method → method_guard env method ≡ method_guard (in_world w env) method
  method_guard_same method u = ap (guard env) (answers.guarded_method method.reference u.class)

  -- an object that flows to the class that is named, and to the current one where it is guarded
  receiver_taken : (owner : FrameType) (one other : List FrameType) (stack : List FrameType) → KnownType known owner → AllKnown known one → one ≡ other → AllKnown known stack
      → SameIf (AllKnown known) (taken_as_all v (owner ∷ one) stack) (taken_as_all w (owner ∷ other) stack)
  receiver_taken owner one other stack o g e s =
      then_same (AllKnown known) (taken_as_all v (owner ∷ one) stack) (taken_as_all w (owner ∷ one) stack) (taken_as_all w (owner ∷ other) stack)
      (all_taken known v w answers.flow (owner ∷ one) stack (o, g) s) (ap (λ ts. taken_as_all w (owner ∷ ts) stack) e)

  field_got : (field : FieldUse) → KnownFieldUse known field → (frame : Frame) → KnownFrame known frame → Same (get_field env field frame) (get_field (in_world w env) field frame)
  field_got field u frame f =
      bound (AllKnown known) (KnownFrame known) (λ below. Some (with_stack frame (field.type ∷ below))) (λ below. Some (with_stack frame (field.type ∷ below)))
      (taken_as_all v (field.owner ∷ field_guard env field) frame.stack) (taken_as_all w (field.owner ∷ field_guard (in_world w env) field) frame.stack)
      (receiver_taken field.owner (field_guard env field) (field_guard (in_world w env) field) frame.stack u.owner
      (guard_known (is_guarded_field v env.site.by field.reference)) (field_guard_same field u) f.stack)
      (λ below h. given (KnownFrame known) (with_stack frame (field.type ∷ below)) (stack_known known frame (field.type ∷ below) f (u.type, h)))

  store_taken : (field : FieldUse) → KnownFieldUse known field → (stack : List FrameType) → AllKnown known stack
      → SameIf (AllKnown known) (taken_for_store env field stack) (taken_for_store (in_world w env) field stack)
  store_taken field u [] s = nothing (AllKnown known)
  store_taken field u (types.UninitializedThis ∷ below) s = one_of (AllKnown known) (when (sets_own_field env field) below) (if_when (AllKnown known) (sets_own_field env field) below s.1)
  store_taken field u (item ∷ below) s =
      receiver_taken field.owner (field_guard env field) (field_guard (in_world w env) field) (item ∷ below) u.owner
      (guard_known (is_guarded_field v env.site.by field.reference)) (field_guard_same field u) s

  field_put : (field : FieldUse) → KnownFieldUse known field → (frame : Frame) → KnownFrame known frame → Same (put_field env field frame) (put_field (in_world w env) field frame)
  field_put field u frame f =
      bound (AllKnown known) (KnownFrame known) (λ below. Some (with_stack frame below)) (λ below. Some (with_stack frame below))
      (taken v (field.type ∷ []) frame.stack >>= taken_for_store env field) (taken w (field.type ∷ []) frame.stack >>= taken_for_store (in_world w env) field)
      (bound (AllKnown known) (AllKnown known) (taken_for_store env field) (taken_for_store (in_world w env) field) (taken v (field.type ∷ []) frame.stack)
      (taken w (field.type ∷ []) frame.stack) (are_taken known v w answers.flow (field.type ∷ []) frame.stack (u.type, tt) f.stack) (store_taken field u))
      (λ below h. given (KnownFrame known) (with_stack frame below) (stack_known known frame below f h))

  accessed : (how : FieldAccess) (field : FieldUse) → KnownFieldUse known field → (frame : Frame) → KnownFrame known frame
      → Same (access_field env how field frame) (access_field (in_world w env) how field frame)
  accessed access.GetStatic field u frame f = are_exchanged known v w answers.flow [] (field.type ∷ []) frame tt (u.type, tt) f
  accessed access.PutStatic field u frame f = are_exchanged known v w answers.flow (field.type ∷ []) [] frame (u.type, tt) tt f
  accessed access.GetField field u frame f = field_got field u frame f
  accessed access.PutField field u frame f = field_put field u frame f

  field_ruled : (how : FieldAccess) (index : ℕ) (frame : Frame) → KnownFrame known frame → Same (field_rule env how index frame) (field_rule (in_world w env) how index frame)
  field_ruled how index frame f =
      bound (KnownFieldUse known) (KnownFrame known) (λ field. access_field env how field frame) (λ field. access_field (in_world w env) how field frame)
      (field_named_by env index) (field_named_by env index) (one_of (KnownFieldUse known) (field_named_by env index) (field_use_known known env k.names index))
      (λ field u. accessed how field u frame f)

  -- ---- methods

  called_same : (method : MethodUse) → KnownMethodUse known method → (owner : FrameType) (one other : List FrameType) → KnownType known owner → AllKnown known one → one ≡ other
      → (frame : Frame) → KnownFrame known frame → Same (called_on env method (owner ∷ one) frame) (called_on (in_world w env) method (owner ∷ other) frame)
  called_same method u owner one other o g e frame f =
      bound (AllKnown known) (KnownFrame known) (λ below. Some (with_stack frame (method.result ++ below))) (λ below. Some (with_stack frame (method.result ++ below)))
      (taken v method.arguments frame.stack >>= taken_as_all v (owner ∷ one)) (taken w method.arguments frame.stack >>= taken_as_all w (owner ∷ other))
      (bound (AllKnown known) (AllKnown known) (taken_as_all v (owner ∷ one)) (taken_as_all w (owner ∷ other)) (taken v method.arguments frame.stack)
      (taken w method.arguments frame.stack) (are_taken known v w answers.flow method.arguments frame.stack u.arguments f.stack)
      (λ stack h. receiver_taken owner one other stack o g e h))
      (λ below h. given (KnownFrame known) (with_stack frame (method.result ++ below)) (stack_known known frame (method.result ++ below) f
      (each_appended (KnownType known) method.result below u.result h)))

  virtual_same : (method : MethodUse) → KnownMethodUse known method → (frame : Frame) → KnownFrame known frame
      → Same (invoke_virtual env method frame) (invoke_virtual (in_world w env) method frame)
  virtual_same method u frame f =
      chosen (KnownFrame known) (is_of_class method.constant && has_plain_name method) (is_of_class method.constant && has_plain_name method)
      (called_on env method (method.owner ∷ method_guard env method) frame) (called_on (in_world w env) method (method.owner ∷ method_guard (in_world w env) method) frame) refl
      (λ e. called_same method u method.owner (method_guard env method) (method_guard (in_world w env) method) u.owner
      (guard_known (is_guarded_method v env.site.by method.reference)) (method_guard_same method u) frame f)

  static_same : (method : MethodUse) → KnownMethodUse known method → (frame : Frame) → KnownFrame known frame
      → Same (invoke_static env method frame) (invoke_static (in_world w env) method frame)
  static_same method u frame f =
      chosen (KnownFrame known) (has_plain_name method) (has_plain_name method) (exchanged v method.arguments method.result frame)
      (exchanged w method.arguments method.result frame) refl (λ e. are_exchanged known v w answers.flow method.arguments method.result frame u.arguments u.result f)

  interface_same : (count : ℕ) (method : MethodUse) → KnownMethodUse known method → (frame : Frame) → KnownFrame known frame
      → Same (invoke_interface env count method frame) (invoke_interface (in_world w env) count method frame)
  interface_same count method u frame f =
      chosen (KnownFrame known) (not (is_of_class method.constant) && has_plain_name method && counts_arguments method count)
      (not (is_of_class method.constant) && has_plain_name method && counts_arguments method count)
      (called_on env method (method.owner ∷ []) frame) (called_on (in_world w env) method (method.owner ∷ []) frame) refl
      (λ e. called_same method u method.owner [] [] u.owner tt refl frame f)

  near_same : (name : List ℕ) → IsTrue (known name) → is_near env name ≡ is_near (in_world w env) name
  near_same name n = ap (λ o. not (is_interface_named env name o) || (bytes_eq name (current_class env).name || is_direct_interface env name)) (answers.named name n)

  super_same : (method : MethodUse) → KnownMethodUse known method → (frame : Frame) → KnownFrame known frame
      → Same (invoke_super env method frame) (invoke_super (in_world w env) method frame)
  super_same method u frame f =
      chosen (KnownFrame known) (has_plain_name method && flows v (current_type env) method.owner && is_near env method.reference.class)
      (has_plain_name method && flows w (current_type env) method.owner && is_near (in_world w env) method.reference.class)
      (called_on env method (current_type env ∷ []) frame) (called_on (in_world w env) method (current_type env ∷ []) frame)
      (ap (λ b. has_plain_name method && b && is_near env method.reference.class) (answers.flow (current_type env) method.owner current_known u.owner)
      ∙ ap (λ b. has_plain_name method && flows w (current_type env) method.owner && b) (near_same method.reference.class u.class))
      (λ e. called_same method u (current_type env) [] [] current_known tt refl frame f)

  -- ---- constructors

  new_same : (method : MethodUse) → KnownMethodUse known method → (offset : ℕ) → constructs_new env method offset ≡ constructs_new (in_world w env) method offset
  new_same method u offset =
      ap (λ b. is_that_name method.reference.class (class_of_new env (instruction_at env offset)) && b)
      (all_alike (KnownType known) (flows v method.owner) (flows w method.owner) (λ t h. answers.flow method.owner t u.owner h) (method_guard env method)
      (guard_known (is_guarded_method v env.site.by method.reference))
      ∙ ap (list_all (flows w method.owner)) (method_guard_same method u))

  constructed_same : (method : MethodUse) → KnownMethodUse known method → (object : FrameType)
      → SameIf (KnownType known) (constructed_type env method object) (constructed_type (in_world w env) method object)
  constructed_same method u (types.Uninitialized offset) =
      passed (KnownType known) (constructs_new env method offset) (constructs_new (in_world w env) method offset) method.owner (new_same method u offset) u.owner
  constructed_same method u types.UninitializedThis = passed (KnownType known) (constructs_this env method) (constructs_this env method) (current_type env) refl current_known
  constructed_same method u object = nothing (KnownType known)

  top_same : (method : MethodUse) → KnownMethodUse known method → (frame : Frame) → KnownFrame known frame → (stack : List FrameType) → AllKnown known stack
      → Same (construct_top env method frame stack) (construct_top (in_world w env) method frame stack)
  top_same method u frame f [] s = nothing (KnownFrame known)
  top_same method u frame f (object ∷ below) s =
      mapped (KnownType known) (KnownFrame known) (λ type. constructed frame object type below) (constructed_type env method object)
      (constructed_type (in_world w env) method object) (constructed_same method u object)
      (λ type t. record { locals = replaced_known known object type frame.locals t f.locals; stack = replaced_known known object type below t s.1 })

  init_same : (method : MethodUse) → KnownMethodUse known method → (frame : Frame) → KnownFrame known frame
      → Same (invoke_init env method frame) (invoke_init (in_world w env) method frame)
  init_same method u frame f =
      bound (AllKnown known) (KnownFrame known) (construct_top env method frame) (construct_top (in_world w env) method frame) (taken v method.arguments frame.stack)
      (taken w method.arguments frame.stack) (are_taken known v w answers.flow method.arguments frame.stack u.arguments f.stack) (top_same method u frame f)

  special_same : (method : MethodUse) → KnownMethodUse known method → (frame : Frame) → KnownFrame known frame
      → Same (invoke_special env method frame) (invoke_special (in_world w env) method frame)
  special_same method u frame f = by_name (is_init method.reference.name)
    where
      by_name : (b : Bool) → Same (if b then invoke_init env method frame else invoke_super env method frame)
          (if b then invoke_init (in_world w env) method frame else invoke_super (in_world w env) method frame)
      by_name true = init_same method u frame f
      by_name false = super_same method u frame f

  invoked : (how : Invocation) (method : MethodUse) → KnownMethodUse known method → (frame : Frame) → KnownFrame known frame
      → Same (invoke env how method frame) (invoke (in_world w env) how method frame)
  invoked invocations.Virtual method u frame f = virtual_same method u frame f
  invoked invocations.Special method u frame f = special_same method u frame f
  invoked invocations.Static method u frame f = static_same method u frame f

  invoke_ruled : (how : Invocation) (index : ℕ) (frame : Frame) → KnownFrame known frame → Same (invoke_rule env how index frame) (invoke_rule (in_world w env) how index frame)
  invoke_ruled how index frame f =
      bound (KnownMethodUse known) (KnownFrame known) (λ method. when (goes_with_version env method) method >>= λ method. invoke env how method frame)
      (λ method. when (goes_with_version env method) method >>= λ method. invoke (in_world w env) how method frame)
      (method_named_by env index) (method_named_by env index) (one_of (KnownMethodUse known) (method_named_by env index) (method_use_known known env k.names index))
      (λ method u. bound (KnownMethodUse known) (KnownFrame known) (λ method. invoke env how method frame) (λ method. invoke (in_world w env) how method frame)
      (when (goes_with_version env method) method) (when (goes_with_version env method) method)
      (passed (KnownMethodUse known) (goes_with_version env method) (goes_with_version env method) method refl u) (λ method u. invoked how method u frame f))

  interface_ruled : (index count : ℕ) (frame : Frame) → KnownFrame known frame → Same (invoke_interface_rule env index count frame) (invoke_interface_rule (in_world w env) index count frame)
  interface_ruled index count frame f =
      bound (KnownMethodUse known) (KnownFrame known) (λ method. invoke_interface env count method frame) (λ method. invoke_interface (in_world w env) count method frame)
      (method_named_by env index) (method_named_by env index) (one_of (KnownMethodUse known) (method_named_by env index) (method_use_known known env k.names index))
      (λ method u. interface_same count method u frame f)

  -- ---- all instructions

  other_same : (pc : ℕ) (insn : Instruction) (frame : Frame) → KnownFrame known frame → Same (other_rule env pc insn frame) (other_rule (in_world w env) pc insn frame)
  other_same pc (insns.PoolConstant index form) frame f =
      as_it_is (push_constant env index frame) (if_mapped (KnownType known) (KnownFrame known) (constant_type env index) (pushed frame)
      (constant_known known env k.names k.string index) (λ type t. pushed_known known frame type f t))
  other_same pc (insns.PoolLongConstant index) frame f =
      as_it_is (push_long_constant env index frame) (if_mapped (KnownType known) (KnownFrame known) (long_constant_type env index) (pushed frame) (long_known known _)
      (λ type t. pushed_known known frame type f t))
  other_same pc (insns.Load kind index form) frame f = as_it_is (load kind index frame) (loaded known kind index frame f)
  other_same pc (insns.Store kind index form) frame f = as_it_is (store (value_kind kind) index frame) (kept known (value_kind kind) index frame f)
  other_same pc (insns.StoreLong index form) frame f = as_it_is (store kinds.Long index frame) (kept known kinds.Long index frame f)
  other_same pc (insns.Increment index value form) frame f = as_it_is (increment index frame) (incremented known index frame f)
  other_same pc (insns.ArrayLoad element) frame f = array_loaded element frame f
  other_same pc insns.ReferenceArrayLoad frame f = reference_loaded frame f
  other_same pc (insns.ArrayStore element) frame f = array_stored element frame f
  other_same pc (insns.Stack form) frame f = as_it_is (move_words form frame) (moved known form frame f)
  other_same pc (insns.Branch test distance) frame f = as_it_is (test_references test frame) (references_tested known test frame f)
  other_same pc (insns.ReturnValue kind) frame f = returned kind env.descriptor.result k.descriptor.result frame f
  other_same pc insns.Return frame f = as_it_is (return_nothing env.descriptor.result frame) (nothing_returned known env.descriptor.result frame f)
  other_same pc (insns.Field how index) frame f = field_ruled how index frame f
  other_same pc (insns.Invoke how index) frame f = invoke_ruled how index frame f
  other_same pc (insns.InvokeInterface index count) frame f = interface_ruled index count frame f
  other_same pc (insns.New index) frame f = as_it_is (new_object env pc index frame) (created pc index frame f)
  other_same pc (insns.NewReferenceArray index) frame f =
      exchanged_for (array_of_operand env index) (array_of_known known env k.names index) (types.Int ∷ []) (tt, tt) (λ t. t ∷ []) (λ t j. (j, tt)) frame f
  other_same pc (insns.NewMultiArray index dimensions) frame f =
      exchanged_for (array_operand env index dimensions) (array_known known env k.names index dimensions) (replicate dimensions types.Int)
      (each_repeated (KnownType known) dimensions types.Int tt) (λ t. t ∷ []) (λ t j. (j, tt)) frame f
  other_same pc insns.ArrayLength frame f =
      as_it_is (option_map (with_stack frame) (array_length frame.stack)) (if_mapped (AllKnown known) (KnownFrame known) (array_length frame.stack) (with_stack frame)
      (length_known known frame.stack f.stack) (λ stack h. stack_known known frame stack f h))
  other_same pc (insns.CheckCast index) frame f =
      exchanged_for (operand_type env index) (operand_known known env k.names index) (object_class_type ∷ []) (k.object, tt) (λ t. t ∷ []) (λ t j. (j, tt)) frame f
  other_same pc (insns.InstanceOf index) frame f =
      exchanged_for (operand_type env index) (operand_known known env k.names index) (object_class_type ∷ []) (k.object, tt) (λ t. types.Int ∷ []) (λ t j. (tt, tt)) frame f
  other_same pc insn frame f = nothing (KnownFrame known)

  effect_same : (pc : ℕ) (insn : Instruction) (frame : Frame) → KnownFrame known frame → Same (effect env pc insn frame) (effect (in_world w env) pc insn frame)
  effect_same pc insn frame f = by_table (fixed_exchange insn) (fixed_known known k.object k.throwable insn)
    where
      by_table : (o : Option Exchange) → IfSome o (KnownExchange known)
          → Same (by_exchange env o (other_rule env pc insn frame) frame) (by_exchange (in_world w env) o (other_rule (in_world w env) pc insn frame) frame)
      by_table None h = other_same pc insn frame f
      by_table (Some e) h = are_exchanged known v w answers.flow e.takes e.gives frame h.takes h.gives f

  pub rule_same : (pc : ℕ) (insn : Instruction) (frame : Frame) → KnownFrame known frame
      → SameIf (KnownFrame known) (rule env pc insn frame) (rule (in_world w env) pc insn frame)
  rule_same pc insn frame f =
      bound (KnownFrame known) (KnownFrame known) (within_stack env) (within_stack (in_world w env)) (effect env pc insn frame) (effect (in_world w env) pc insn frame)
      (effect_same pc insn frame f)
      (λ left h. passed (KnownFrame known) (nat_le (words left.stack) env.code.max_stack) (nat_le (words left.stack) env.code.max_stack) left refl h)

  -- ---- the frame of handlers

  pub handler_known : (insn : Instruction) (frame : Frame) → KnownFrame known frame → KnownFrame known (handler_frame env insn frame)
  handler_known insn frame f = record { locals = by_object (constructed_object env insn frame); stack = tt }
    where
      by_object : (o : Option FrameType) → AllKnown known (without_object o frame.locals)
      by_object None = f.locals
      by_object (Some object) = replaced_known known object types.Top frame.locals tt f.locals
